-- What comes next at every place, computed. Assumes nothing.
use mathlib.Core.Path.{◌≡◌, refl, subst}
use mathlib.Core.Logic.{inl, inr, ⊎_elim}
use mathlib.Core.Bool.{Bool, true, false}
use mathlib.Core.List.{List}
use mathlib.Core.Option.{Option, none, some}
use Prim.Native.Nat.{ℕ, ◌+◌, ◌<◌}
use borrow.Author.Tests.{ltb-true, ltb-false, eqb-true, eqb-false}
use lib.Dec.{ltb, eqb}
use lib.ListN.{length}
use Rattle.rules.specs.Class.{Class, any_of}
use Rattle.rules.specs.Rule.{one, many, opt, Takes, nothing, right, stop, Longest}
use Rattle.rules.proofs.Matches.{longest_same}
use Rattle.lexicon.specs.declared.Form.TheVariants as Form
use Rattle.lexicon.specs.declared.Kind.{Kind}
use Rattle.lexicon.specs.declared.Next.{Next}
use Rattle.lexicon.specs.Space.{sp, Skips}
use Rattle.lexicon.specs.Symbols.{Colons}
use Rattle.lexicon.specs.Token.{Lexeme, an_ignorance, a_boolean, an_integer, a_fraction, a_bits, a_blob, a_quoted, a_word, a_code_point, a_later, a_symbol, rule, Told, Comes}
use Rattle.decisions.proofs.Ends.{furthest, furthest_longest}
use Rattle.decisions.proofs.Bad.{bad_of, bad_is}
use Rattle.decisions.proofs.Heads.{kind_of, told}
use Rattle.decisions.proofs.Lexemes.{Match, best_at, HereOr, best_here}

abbrev colon : Class
colon = any_of ":"

-- a kind, with the byte after the token's last
record Sort : Type 0 where
  kind : Kind
  end : ℕ

abbrev sorted : Kind → ℕ → Sort
sorted k j = record { kind = k; end = j }

module _ (text : List ℕ) where
  -- ---- runs of colons

  abbrev colons_end : ℕ → ℕ
  colons_end i = furthest text (many (one colon)) i

  colons_longest : (i : ℕ) → Longest text (many (one colon)) i (colons_end i)
  colons_longest i = furthest_longest text (many (one colon)) i (stop refl)

  colons_are : (i n : ℕ) → eqb (colons_end i) (i + n) ≡ true → Colons text i n
  colons_are i n e = subst (λ (x : ℕ). Longest text (many (one colon)) i x) (eqb-true (colons_end i) (i + n) e) (colons_longest i)

  not_colons_lem : (i n : ℕ) → eqb (colons_end i) (i + n) ≡ false → Colons text i n → ⊥
  not_colons_lem i n e c = eqb-false (colons_end i) (i + n) e (longest_same (colons_longest i) c)

  -- a token of one or two colons, if their run has the length of one
  abbrev by_colons : Bool → Bool → Bool → ℕ → Option Sort
  by_colons true b c i = some (sorted Kind.Colon (i + 1))
  by_colons false true c i = some (sorted Kind.TwoColons (i + 2))
  by_colons false false true i = some (sorted Kind.Colon (i + 1))
  by_colons false false false i = none

  record NoRun (i : ℕ) : Type 0 where
    one_not : eqb (colons_end i) (i + 1) ≡ false
    two_not : eqb (colons_end i) (i + 2) ≡ false
    three_not : eqb (colons_end i) (i + 3) ≡ false

  -- ---- no token

  abbrev NoLexeme : ℕ → Type 0
  NoLexeme i = (n : Lexeme) (k : ℕ) → Takes text (rule n) i k → ⊥

  no_told : (i : ℕ) → NoLexeme i → NoRun i → (k : Kind) (j : ℕ) → Told text k i j → ⊥
  no_told i f r Kind.Ignorance j x = f an_ignorance j x.takes
  no_told i f r (Kind.Boolean b) j x = f (a_boolean b) j x.takes
  no_told i f r (Kind.Integer signed) j x = f an_integer j x.0.takes
  no_told i f r Kind.Fraction j x = f a_fraction j x.takes
  no_told i f r Kind.Bits j x = f a_bits j x.takes
  no_told i f r Kind.Blob j x = f a_blob j x.takes
  no_told i f r (Kind.Text Form.Quoted) j x = f a_quoted j x.takes
  no_told i f r (Kind.Text Form.Word) j x = f a_word j x.0.takes
  no_told i f r (Kind.Text (Form.HeadWord h)) j x = f a_word j x.0.takes
  no_told i f r (Kind.Text Form.CodePoint) j x = f a_code_point j x.takes
  no_told i f r Kind.Later j x = f a_later j x.takes
  no_told i f r (Kind.Symbol s) j x = f (a_symbol s) j x.takes
  no_told i f r Kind.Colon j x = ⊎_elim (λ c. not_colons_lem i 1 r.one_not c) (λ c. not_colons_lem i 3 r.three_not c) x.1
  no_told i f r Kind.TwoColons j x = not_colons_lem i 2 r.two_not x.1

  -- ---- what comes next

  abbrev token_of : ℕ → Sort → Next
  token_of i s = Next.Token (record { kind = s.kind; first = i; end = s.end; bad = bad_of text s.kind i s.end })

  abbrev lexed : ℕ → Option Match → Next
  lexed i none = Next.NoToken i
  lexed i (some m) = token_of i (sorted (kind_of text m.lexeme i m.end) m.end)

  abbrev token_at : ℕ → Option Sort → Next
  token_at i none = lexed i (best_at text i)
  token_at i (some s) = token_of i s

  abbrev inside : ℕ → Next
  inside i = token_at i (by_colons (eqb (colons_end i) (i + 1)) (eqb (colons_end i) (i + 2)) (eqb (colons_end i) (i + 3)) i)

  abbrev next_from : Bool → ℕ → Next
  next_from true i = inside i
  next_from false i = Next.End (length text)

  abbrev pub next_of : ℕ → Next
  next_of at = next_from (ltb (furthest text (opt sp) at) (length text)) (furthest text (opt sp) at)

  module _ (at i : ℕ) (skips : Skips text at i) where
    token_is : i < length text → (s : Sort) → Told text s.kind i s.end → Comes text at (token_of i s)
    token_is h s t = (skips, h, record { told = t }, bad_is text s.kind i s.end t)

    lexed_is : i < length text → NoRun i → (m : Option Match) → HereOr text i m → Comes text at (lexed i m)
    lexed_is h r none f = (skips, h, λ k j x. no_told i f r k j x.told)
    lexed_is h r (some m) w = token_is h (sorted (kind_of text m.lexeme i m.end) m.end) (told text m.lexeme i m.end w)

    runs_is : i < length text → (a b c : Bool) → eqb (colons_end i) (i + 1) ≡ a → eqb (colons_end i) (i + 2) ≡ b → eqb (colons_end i) (i + 3) ≡ c → Comes text at (token_at i (by_colons a b c i))
    runs_is h true b c x y z = token_is h (sorted Kind.Colon (i + 1)) (refl, inl (colons_are i 1 x))
    runs_is h false true c x y z = token_is h (sorted Kind.TwoColons (i + 2)) (refl, colons_are i 2 y)
    runs_is h false false true x y z = token_is h (sorted Kind.Colon (i + 1)) (refl, inr (colons_are i 3 z))
    runs_is h false false false x y z = lexed_is h (record { one_not = x; two_not = y; three_not = z }) (best_at text i) (best_here text i)

    from_is : (b : Bool) → ltb i (length text) ≡ b → Comes text at (next_from b i)
    from_is true e = runs_is (ltb-true i (length text) e) (eqb (colons_end i) (i + 1)) (eqb (colons_end i) (i + 2)) (eqb (colons_end i) (i + 3)) refl refl refl
    from_is false e = (refl, i, skips, ltb-false i (length text) e)

  pub next_is : (at : ℕ) → Comes text at (next_of at)
  next_is at =
      from_is at (furthest text (opt sp) at) (furthest_longest text (opt sp) at (right (nothing refl))) (ltb (furthest text (opt sp) at) (length text)) refl

  pub comes : (at : ℕ) → (r : Next) × Comes text at r
  comes at = (next_of at, next_is at)
