-- A token stands inside the text; its bytes as a text by themselves: the same token, with the same value, well formed if the text is. Assumes nothing.
use mathlib.Core.Path.{◌≡◌, refl, sym, ap, ◌∙◌}
use mathlib.Core.Logic.{inl, inr, ⊎_elim}
use mathlib.Core.Bool.{true}
use mathlib.Core.List.{List}
use Prim.Native.Nat.{ℕ, ◌+◌, ◌-◌, ◌≤◌, ◌<◌}
use native.Mathlib.Omega.{arith}
use lib.IntN.{ℤ}
use lib.ListN.{length, get_or}
use Rattle.rules.specs.Class.{has, any_of}
use Rattle.rules.specs.Rule.{Rule, one, many, lit, Takes, byte, both, stop, more}
use Rattle.rules.specs.Plain.{between}
use Rattle.rules.proofs.Bools.{and_left, and_right}
use Rattle.rules.proofs.Classes.{includes, in_some}
use Rattle.rules.proofs.Matches.{forward, inside, ending}
use Rattle.rules.proofs.Ways.{opens, opens_at}
use Rattle.rules.proofs.Bounds.{closes}
use Rattle.rules.proofs.Windows.{byte_same, piece_window, piece_length, alone, there, takes_moves}
use Rattle.lexicon.specs.declared.Form.TheVariants.{Quoted, Word, HeadWord, CodePoint}
use Rattle.lexicon.specs.declared.Kind.{Kind}
use Rattle.lexicon.specs.declared.Kind.TheVariants.{Ignorance, Boolean, Integer, Fraction, Bits, Blob, Text, Later, Symbol, Colon, TwoColons}
use Rattle.lexicon.specs.declared.Token.{Token}
use Rattle.lexicon.specs.declared.Next.TheVariants as Next
use Rattle.lexicon.specs.Literals.{plus_minus}
use Rattle.lexicon.specs.Symbols.{Colons}
use Rattle.lexicon.specs.Utf8.{WellFormed}
use Rattle.lexicon.specs.Values.{IntegerOf, BitsOf, BlobOf, TextOf}
use Rattle.lexicon.specs.Token.{Lexeme, an_ignorance, a_boolean, an_integer, a_fraction, a_bits, a_blob, a_quoted, a_word, a_code_point, a_later, a_symbol, rule, Here, Told, Is, Comes, Bad}
use Rattle.lexicon.proofs.Unique.{token_forward}
use Rattle.lexicon.proofs.Formed.{ascii, edges, whole_formed}
use Rattle.lexicon.proofs.Moved.{integer_moved, bits_moved, blob_moved, text_moved, bad_moved}

module _ (text : List ℕ) where
  -- ---- a token's rule, with ASCII at both ends

  pub record Ruled (i j : ℕ) : Type 0 where
    pub of : Rule
    pub takes : Takes text of i j
    pub opening : opens ascii of ≡ true
    pub closing : closes ascii of ≡ true

  by_lexeme : (l : Lexeme) {i j : ℕ} → Here text l i j → Ruled i j
  by_lexeme l h =
      record {
        of = rule l;
        takes = h.takes;
        opening = and_left (opens ascii (rule l)) _ (edges l);
        closing = and_right (opens ascii (rule l)) _ (edges l);
      }

  abbrev Run : ℕ → ℕ → Type 0
  Run i j = Takes text (many (one (any_of ":"))) i j

  one_colon : {i j e : ℕ} → j ≡ i + 1 → Run i e → i < e → Ruled i j
  unfolding opens includes in_some
  one_colon f (stop e) h = absurd (omega (arith, e, h))
  one_colon f (more (byte a e) u) h = record { of = lit ":"; takes = byte a f; opening = refl; closing = refl }

  first_colon_lem : {i j e : ℕ} → j ≡ i + 1 → Run i e → i < e → Run i j
  first_colon_lem f (stop e) h = absurd (omega (arith, e, h))
  first_colon_lem f (more (byte a e) u) h = more (byte a f) (stop refl)

  two_colons : {i j e : ℕ} → j ≡ i + 2 → Run i e → i + 2 ≤ e → Ruled i j
  unfolding opens includes in_some
  two_colons f (stop e) h = absurd (omega (arith, e, h))
  two_colons f (more (byte a e) (stop g)) h = absurd (omega (arith, e, g, h))
  two_colons {i} {j} f (more (byte a e) (more {m = m} (byte b g) u)) h =
      let k : m ≡ j = omega (arith, e, g, f) in
      record { of = lit "::"; takes = ending k (both (byte a e) (byte b g)); opening = refl; closing = refl }

  pub ruled : (k : Kind) {i j : ℕ} → Told text k i j → Ruled i j
  ruled Ignorance t = by_lexeme an_ignorance t
  ruled (Boolean b) t = by_lexeme (a_boolean b) t
  ruled (Integer signed) t = by_lexeme an_integer t.0
  ruled Fraction t = by_lexeme a_fraction t
  ruled Bits t = by_lexeme a_bits t
  ruled Blob t = by_lexeme a_blob t
  ruled (Text Quoted) t = by_lexeme a_quoted t
  ruled (Text Word) t = by_lexeme a_word t.0
  ruled (Text (HeadWord h)) t = by_lexeme a_word t.0
  ruled (Text CodePoint) t = by_lexeme a_code_point t
  ruled Later t = by_lexeme a_later t
  ruled (Symbol s) t = by_lexeme (a_symbol s) t
  ruled Colon (e, inl c) = one_colon e c.takes (omega arith)
  ruled Colon (e, inr c) = one_colon e c.takes (omega arith)
  ruled TwoColons (e, c) = two_colons e c.takes (omega arith)

  module _ (k : Kind) {i j : ℕ} (is : Is text k i j) where
    pub token_within : j ≤ length text
    token_within = let r = ruled k is.told in inside r.takes (omega (arith, (opens_at text ascii r.of r.opening r.takes).0))

    pub token_formed : WellFormed text → WellFormed (between text i j)
    token_formed w = let r = ruled k is.told in whole_formed text w r.of r.opening r.closing r.takes

  -- at or after the place where it is looked for
  pub token_bounds : {at : ℕ} {t : Token} → Comes text at (Next.Token t) → (at ≤ t.first) × (t.first < t.end) × (t.end ≤ length text)
  token_bounds {t = t} c = (forward c.0.takes, token_forward text c.2, token_within t.kind c.2)

  -- ---- by itself

  module _ {i j : ℕ} (h : i < j) (g : j ≤ length text) where
    size : length (between text i j) ≡ j - i
    size = piece_length text (omega (arith, h)) g

    taken : {r : Rule} → Takes text r i j → Takes (between text i j) r 0 (length (between text i j))
    taken {r} t = alone text (omega (arith, h)) g (λ (x : List ℕ). Takes x r) (takes_moves r) t

    untaken : {r : Rule} → Takes (between text i j) r 0 (length (between text i j)) → Takes text r i j
    untaken {r} t = there text (omega (arith, h)) g (λ (x : List ℕ). Takes x r) (takes_moves r) t

    first_byte_lem : get_or text i 0 ≡ get_or (between text i j) 0 0
    first_byte_lem = byte_same text (between text i j) i 0 (j - i) (piece_window text (omega (arith, h)) g) i (omega arith) (omega (arith, h))
        ∙ ap (λ (x : ℕ). get_or (between text i j) x 0) (omega arith)

    here_alone : {l : Lexeme} → Here text l i j → Here (between text i j) l 0 (length (between text i j))
    here_alone x = record { takes = taken x.takes; most = λ m t. inside t (omega arith) }

    colons_alone : (n : ℕ) → j ≡ i + n → Run i j → Colons (between text i j) 0 n
    colons_alone n e t =
        let f : length (between text i j) ≡ 0 + n = omega (arith, e, size) in
        record { takes = ending f (taken t); most = λ u. omega (arith, f, inside u (omega arith)) }

    told_alone : (k : Kind) → Told text k i j → Told (between text i j) k 0 (length (between text i j))
    told_alone Ignorance t = here_alone t
    told_alone (Boolean b) t = here_alone t
    told_alone (Integer signed) t = (here_alone t.0, t.1 ∙ ap (has plus_minus) first_byte_lem)
    told_alone Fraction t = here_alone t
    told_alone Bits t = here_alone t
    told_alone Blob t = here_alone t
    told_alone (Text Quoted) t = here_alone t
    told_alone (Text Word) t = (here_alone t.0, λ d u. t.1 d (untaken u))
    told_alone (Text (HeadWord d)) t = (here_alone t.0, taken t.1)
    told_alone (Text CodePoint) t = here_alone t
    told_alone Later t = here_alone t
    told_alone (Symbol s) t = here_alone t
    told_alone Colon (e, c) =
        (omega (arith, e, size), inl (colons_alone 1 e (⊎_elim (λ x. first_colon_lem e x.takes (omega arith)) (λ x. first_colon_lem e x.takes (omega arith)) c)))
    told_alone TwoColons (e, c) = (omega (arith, e, size), colons_alone 2 e (ending (sym e) c.takes))

  module _ (k : Kind) {i j : ℕ} (is : Is text k i j) where
    -- the piece of a token is that token
    pub token_alone : Is (between text i j) k 0 (length (between text i j))
    token_alone = record { told = told_alone (token_forward text is) (token_within k is) k is.told }

    -- a bad value is the piece's own, and so are an integer, characters, bits and bytes
    pub bad_there : Bad (between text i j) k 0 (length (between text i j)) → Bad text k i j
    bad_there = there text (omega (arith, token_forward text is)) (token_within k is) (λ (x : List ℕ). Bad x k) (λ a b p q n w i j x h l. bad_moved a b p q n w k x h l)

    pub bad_alone : Bad text k i j → Bad (between text i j) k 0 (length (between text i j))
    bad_alone = alone text (omega (arith, token_forward text is)) (token_within k is) (λ (x : List ℕ). Bad x k) (λ a b p q n w i j x h l. bad_moved a b p q n w k x h l)

    pub integer_there : {z : ℤ} → IntegerOf (between text i j) 0 (length (between text i j)) z → IntegerOf text i j z
    integer_there {z} =
        there text (omega (arith, token_forward text is)) (token_within k is) (λ (x : List ℕ) (i j : ℕ). IntegerOf x i j z) (λ a b p q n w i j x h l. integer_moved a b p q n w x h l)

    pub text_there : {cs : List ℕ} → TextOf (between text i j) 0 (length (between text i j)) cs → TextOf text i j cs
    text_there {cs} =
        there text (omega (arith, token_forward text is)) (token_within k is) (λ (x : List ℕ) (i j : ℕ). TextOf x i j cs) (λ a b p q n w i j x h l. text_moved a b p q n w x h l)

    pub bits_there : {bs : List ℕ} → BitsOf (between text i j) 0 (length (between text i j)) bs → BitsOf text i j bs
    bits_there {bs} =
        there text (omega (arith, token_forward text is)) (token_within k is) (λ (x : List ℕ) (i j : ℕ). BitsOf x i j bs) (λ a b p q n w i j x h l. bits_moved a b p q n w x h l)

    pub blob_there : {bs : List ℕ} → BlobOf (between text i j) 0 (length (between text i j)) bs → BlobOf text i j bs
    blob_there {bs} =
        there text (omega (arith, token_forward text is)) (token_within k is) (λ (x : List ℕ) (i j : ℕ). BlobOf x i j bs) (λ a b p q n w i j x h l. blob_moved a b p q n w x h l)
