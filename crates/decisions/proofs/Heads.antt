-- The kind of the token that a lexeme is: a bare word is looked up among the head words. Assumes nothing.
use mathlib.Core.Path.{◌≡◌, refl}
use mathlib.Core.Bool.{Bool, true, false}
use mathlib.Core.List.{List, [], ◌∷◌}
use mathlib.Core.Option.{Option, none, some}
use Prim.Native.Nat.{ℕ}
use native.Mathlib.Omega.{arith}
use lib.ListN.{get_or}
use Rattle.rules.specs.Class.{has}
use Rattle.rules.specs.Rule.{lit}
use Rattle.rules.proofs.Bools.{clash}
use Rattle.lexicon.specs.declared.Head.{Head}
use Rattle.lexicon.specs.declared.Form.{Form}
use Rattle.lexicon.specs.declared.Kind.{Kind}
use Rattle.lexicon.specs.Literals.{plus_minus}
use Rattle.lexicon.specs.Token.{Lexeme, an_ignorance, a_boolean, an_integer, a_fraction, a_bits, a_blob, a_quoted, a_word, a_code_point, a_later, a_symbol, head_word, Here, Told}
use Rattle.decisions.proofs.Cuts.{reaches, takes}

abbrev heads : List Head
heads = Head.Array ∷ Head.Set ∷ Head.Bag ∷ Head.Mix ∷ Head.IntervalSet ∷ Head.IntervalBag ∷ Head.TupleArray ∷ Head.Relation ∷ Head.TupleBag ∷ Head.Article ∷ Head.Excuse ∷ Head.Heading ∷ Head.Renaming ∷ []

abbrev AllHeads : (Head → Type 0) → List Head → Type 0
AllHeads P [] = Unit {0}
AllHeads P (h ∷ hs) = P h × AllHeads P hs

every_head : (P : Head → Type 0) → AllHeads P heads → (h : Head) → P h
every_head P a Head.Array = a.0
every_head P a Head.Set = a.1.0
every_head P a Head.Bag = a.1.1.0
every_head P a Head.Mix = a.1.1.1.0
every_head P a Head.IntervalSet = a.1.1.1.1.0
every_head P a Head.IntervalBag = a.1.1.1.1.1.0
every_head P a Head.TupleArray = a.1.1.1.1.1.1.0
every_head P a Head.Relation = a.1.1.1.1.1.1.1.0
every_head P a Head.TupleBag = a.1.1.1.1.1.1.1.1.0
every_head P a Head.Article = a.1.1.1.1.1.1.1.1.1.0
every_head P a Head.Excuse = a.1.1.1.1.1.1.1.1.1.1.0
every_head P a Head.Heading = a.1.1.1.1.1.1.1.1.1.1.1.0
every_head P a Head.Renaming = a.1.1.1.1.1.1.1.1.1.1.1.1.0

module _ (text : List ℕ) where
  abbrev is_word : ℕ → ℕ → Head → Bool
  is_word i j h = reaches text (lit (head_word h)) i j

  abbrev head_of : List Head → ℕ → ℕ → Option Head
  head_of [] i j = none
  head_of (h ∷ hs) i j = elim (is_word i j h) [ true ↦ some h | false ↦ head_of hs i j ]

  abbrev Found : ℕ → ℕ → Option Head → Type 0
  Found i j none = Unit {0}
  Found i j (some h) = is_word i j h ≡ true

  head_is : (hs : List Head) (i j : ℕ) → Found i j (head_of hs i j)
  head_is [] i j = tt
  head_is (h ∷ hs) i j = go (is_word i j h) refl (head_is hs i j)
    where
      go : (b : Bool) → is_word i j h ≡ b → Found i j (head_of hs i j) →
          Found i j (elim b [ true ↦ some h | false ↦ head_of hs i j ])
      go true e s = e
      go false e s = s

  no_head : (hs : List Head) (i j : ℕ) → head_of hs i j ≡ none → AllHeads (λ (h : Head). is_word i j h ≡ false) hs
  no_head [] i j e = tt
  no_head (h ∷ hs) i j e = go (is_word i j h) refl e (λ x. no_head hs i j x)
    where
      go : (b : Bool) → is_word i j h ≡ b → ◌≡◌ {A = Option Head} (elim b [ true ↦ some h | false ↦ head_of hs i j ]) none →
          (head_of hs i j ≡ none → AllHeads (λ (x : Head). is_word i j x ≡ false) hs) → AllHeads (λ (x : Head). is_word i j x ≡ false) (h ∷ hs)
      go true e x f = let z : ◌≡◌ {A = ℕ} 0 1 = cc in absurd (omega arith)
      go false e x f = (e, f x)

  abbrev word_form : Option Head → Form
  word_form none = Form.Word
  word_form (some h) = Form.HeadWord h

  abbrev pub form_of : ℕ → ℕ → Form
  form_of i j = word_form (head_of heads i j)

  abbrev pub kind_of : Lexeme → ℕ → ℕ → Kind
  kind_of an_ignorance i j = Kind.Ignorance
  kind_of (a_boolean b) i j = Kind.Boolean b
  kind_of an_integer i j = Kind.Integer (has plus_minus (get_or text i 0))
  kind_of a_fraction i j = Kind.Fraction
  kind_of a_bits i j = Kind.Bits
  kind_of a_blob i j = Kind.Blob
  kind_of a_quoted i j = Kind.Text Form.Quoted
  kind_of a_word i j = Kind.Text (form_of i j)
  kind_of a_code_point i j = Kind.Text Form.CodePoint
  kind_of a_later i j = Kind.Later
  kind_of (a_symbol s) i j = Kind.Symbol s

  pub told : (l : Lexeme) (i j : ℕ) → Here text l i j → Told text (kind_of l i j) i j
  told an_ignorance i j x = x
  told (a_boolean b) i j x = x
  told an_integer i j x = (x, refl)
  told a_fraction i j x = x
  told a_bits i j x = x
  told a_blob i j x = x
  told a_quoted i j x = x
  told a_word i j x = go (head_of heads i j) refl (head_is heads i j)
    where
      go : (m : Option Head) → head_of heads i j ≡ m → Found i j m → Told text (Kind.Text (word_form m)) i j
      go none e s =
          (x, λ h t. clash ((takes text (lit (head_word h)) i j).holds_true t) (every_head (λ (y : Head). is_word i j y ≡ false) (no_head heads i j e) h))
      go (some h) e s = (x, (takes text (lit (head_word h)) i j).true_holds s)
  told a_code_point i j x = x
  told a_later i j x = x
  told (a_symbol s) i j x = x
