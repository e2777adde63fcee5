-- The longest match of any lexeme at a place, or that there is none. Assumes nothing.
use mathlib.Core.Path.{◌≡◌, refl, subst}
use mathlib.Core.Logic.{⊎_elim}
use mathlib.Core.Bool.{Bool, true, false, false≢true}
use mathlib.Core.List.{List, [], ◌∷◌}
use mathlib.Core.Option.{Option, none, some}
use Prim.Native.Nat.{ℕ, ◌≤◌}
use native.Mathlib.Omega.{arith}
use borrow.Author.Tests.{leb-true, leb-false}
use lib.Dec.{leb}
use Rattle.rules.specs.Rule.{Takes}
use Rattle.lexicon.specs.Token.{Lexeme, rule, Here}
use Rattle.lexicon.proofs.Tokens.{lexemes, for_every, one_of, is_one}
use Rattle.decisions.proofs.Places.{◌∈◌}
use Rattle.decisions.proofs.Ends.{ends_at, takes_end, end_among, top, top_in, top_most}

-- a lexeme's match, with the byte after its last
pub record Match : Type 0 where
  pub lexeme : Lexeme
  pub end : ℕ

listed : (m : Lexeme) → one_of lexemes m ≡ true
listed m = for_every (λ x. one_of lexemes x) refl m

module _ (text : List ℕ) where
  abbrev longer : Bool → Match → Match → Option Match
  longer true a b = some a
  longer false a b = some b

  -- the ends of the lexeme's matches, against the longest match of others
  abbrev against : Lexeme → List ℕ → Option Match → Option Match
  against l [] m = m
  against l (s ∷ S) none = some (record { lexeme = l; end = top text s S })
  against l (s ∷ S) (some m) = longer (leb m.end (top text s S)) (record { lexeme = l; end = top text s S }) m

  abbrev best : List Lexeme → ℕ → Option Match
  best [] i = none
  best (l ∷ ls) i = against l (ends_at text (rule l) i) (best ls i)

  abbrev pub best_at : ℕ → Option Match
  best_at i = best lexemes i

  -- no match of one of these reaches further
  record Furthest (ls : List Lexeme) (i : ℕ) (m : Match) : Type 0 where
    takes : Takes text (rule m.lexeme) i m.end
    most : (n : Lexeme) (k : ℕ) → one_of ls n ≡ true → Takes text (rule n) i k → k ≤ m.end

  abbrev NoneOf : List Lexeme → ℕ → Type 0
  NoneOf ls i = (n : Lexeme) (k : ℕ) → one_of ls n ≡ true → Takes text (rule n) i k → ⊥

  abbrev Best : List Lexeme → ℕ → Option Match → Type 0
  Best ls i none = NoneOf ls i
  Best ls i (some m) = Furthest ls i m

  module _ (l : Lexeme) (ls : List Lexeme) (i : ℕ) where
    same : (n : Lexeme) (k : ℕ) → n ≡ l → Takes text (rule n) i k → Takes text (rule l) i k
    same n k e t = subst (λ (x : Lexeme). Takes text (rule x) i k) e t

    longer_is : (e : ℕ) (m : Match) → Takes text (rule l) i e → ((k : ℕ) → Takes text (rule l) i k → k ≤ e) → Furthest ls i m →
        (b : Bool) → leb m.end e ≡ b → Best (l ∷ ls) i (longer b (record { lexeme = l; end = e }) m)
    longer_is e m t f w true h =
        record {
          takes = t;
          most = λ n k x u. ⊎_elim (λ y. f k (same n k y u)) (λ y. omega (arith, leb-true m.end e h, w.most n k y u)) (is_one l ls n x);
        }
    longer_is e m t f w false h =
        record {
          takes = w.takes;
          most = λ n k x u. ⊎_elim (λ y. omega (arith, leb-false m.end e h, f k (same n k y u))) (λ y. w.most n k y u) (is_one l ls n x);
        }

    against_is : (S : List ℕ) → ((k : ℕ) → k ∈ S → Takes text (rule l) i k) → ((k : ℕ) → Takes text (rule l) i k → k ∈ S) → (m : Option Match) → Best ls i m → Best (l ∷ ls) i (against l S m)
    against_is [] f g none w = λ n k x u. ⊎_elim (λ y. false≢true (g k (same n k y u))) (λ y. w n k y u) (is_one l ls n x)
    against_is [] f g (some m) w =
        record { takes = w.takes; most = λ n k x u. ⊎_elim (λ y. absurd (false≢true (g k (same n k y u)))) (λ y. w.most n k y u) (is_one l ls n x) }
    against_is (s ∷ S) f g none w =
        record {
          takes = f (top text s S) (top_in text s S);
          most = λ n k x u. ⊎_elim (λ y. top_most text s S k (g k (same n k y u))) (λ y. absurd (w n k y u)) (is_one l ls n x);
        }
    against_is (s ∷ S) f g (some m) w =
        longer_is (top text s S) m (f (top text s S) (top_in text s S)) (λ k u. top_most text s S k (g k u)) w (leb m.end (top text s S)) refl

  best_is : (ls : List Lexeme) (i : ℕ) → Best ls i (best ls i)
  best_is [] i = λ n k x u. false≢true x
  best_is (l ∷ ls) i = against_is l ls i (ends_at text (rule l) i) (λ k h. takes_end text (rule l) i k h) (λ k t. end_among text (rule l) i k t) (best ls i) (best_is ls i)

  -- the lexeme here, or none
  abbrev pub HereOr : ℕ → Option Match → Type 0
  HereOr i none = (n : Lexeme) (k : ℕ) → Takes text (rule n) i k → ⊥
  HereOr i (some m) = Here text m.lexeme i m.end

  pub best_here : (i : ℕ) → HereOr i (best_at i)
  best_here i = go (best_at i) (best_is lexemes i)
    where
      go : (m : Option Match) → Best lexemes i m → HereOr i m
      go none w = λ n k t. w n k (listed n) t
      go (some m) w = record { takes = w.takes; most = λ n {k} t. w.most n k (listed n) t }
