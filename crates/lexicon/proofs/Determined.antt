-- The answers on bytes are determined: the UTF-8 test and the front of a text, and what comes next at a place. Assumes nothing.
use mathlib.Core.Path.{◌≡◌, refl, sym, ap, subst, ◌∙◌}
use mathlib.Core.Bool.{Bool, true, false}
use mathlib.Core.List.{List}
use Prim.Native.Nat.{ℕ, ◌≤◌}
use native.Mathlib.Omega.{arith}
use lib.ListN.{length}
use Rattle.rules.specs.Test.{Says}
use Rattle.rules.specs.Rule.{opt, Takes, nothing, left, right, Longest}
use Rattle.rules.proofs.Classes.{apart, apart_span}
use Rattle.rules.proofs.Matches.{forward, longest_same}
use Rattle.rules.proofs.Chains.{Single, reaches, longest}
use Rattle.rules.proofs.Ways.{covers, single, end_takes}
use Rattle.std.specs.Prelude.{Result, Ok, Err}
use Rattle.lexicon.specs.declared.NotUtf8.{NotUtf8}
use Rattle.lexicon.specs.Utf8.{sequence, WellFormed, BadAt, Encoded}
use Rattle.lexicon.specs.Front.{Front, first_line}
use Rattle.lexicon.specs.declared.Kind.{Kind}
use Rattle.lexicon.specs.declared.Token as Token
use Rattle.lexicon.specs.declared.Next.{Next}
use Rattle.lexicon.specs.Space.{sp}
use Rattle.lexicon.specs.Token.{Is, Bad, Comes}
use Rattle.lexicon.proofs.Spaces.{skips_same}
use Rattle.lexicon.proofs.Unique.{one_token}

-- two tests that say the same are the same
says_same : {P : Type 0} (a b : Bool) → Says a P → Says b P → a ≡ b
says_same true b s t = sym (t.holds_true (s.true_holds refl))
says_same false true s t = s.holds_true (t.true_holds refl)
says_same false false s t = refl

abbrev made : Kind → ℕ → ℕ → Bool → Token.Token
made k i j b = record { kind = k; first = i; end = j; bad = b }

-- from each place there is one well-formed sequence at most
pub sequence_single : (text : List ℕ) → Single text sequence
unfolding covers apart apart_span
sequence_single text = single 5 refl

module _ (text : List ℕ) where
  pub formed_or_bad : {p : ℕ} → WellFormed text → BadAt text p → ⊥
  formed_or_bad w b = omega (arith, forward (reaches (sequence_single text) b.reached b.none w), b.within)

  pub one_bad : {p q : ℕ} → BadAt text p → BadAt text q → p ≡ q
  one_bad a b = longest_same (longest (sequence_single text) a.reached a.none) (longest (sequence_single text) b.reached b.none)

  pub one_encoding : (r s : Result (Unit {0}) NotUtf8) → Encoded text r → Encoded text s → r ≡ s
  one_encoding (Ok _) (Ok _) x y = refl
  one_encoding (Ok _) (Err q) x y = absurd (formed_or_bad x y)
  one_encoding (Err p) (Ok _) x y = absurd (formed_or_bad y x)
  one_encoding (Err p) (Err q) x y = ap (λ (i : ℕ). Err (record { at = i })) (one_bad x y)

  pub one_front : {p q : ℕ} → Front text p → Front text q → p ≡ q
  one_front {p} {q} f g =
      longest_same f.line (subst (λ (m : ℕ). Longest text (opt first_line) m q) (longest_same g.mark f.mark) g.line)

  pub one_answer : (at : ℕ) (r s : Next) → Comes text at r → Comes text at s → r ≡ s
  one_answer at (Next.Token t) (Next.Token u) x y =
      let f : t.first ≡ u.first = skips_same x.0 y.0 in
      let o = one_token text x.2 (subst (λ (i : ℕ). Is text u.kind i u.end) (sym f) y.2) in
      let b : t.bad ≡ u.bad =
      says_same t.bad u.bad x.3
      (subst (λ (i : ℕ). Says u.bad (Bad text t.kind i t.end)) (sym f)
      (subst (λ (k : Kind). Says u.bad (Bad text k u.first t.end)) (sym o.0)
      (subst (λ (e : ℕ). Says u.bad (Bad text u.kind u.first e)) (sym o.1) y.3))) in
      λ i. Next.Token (made (o.0 i) (f i) (o.1 i) (b i))
  one_answer at (Next.Token t) (Next.End p) x y =
      absurd (omega (arith, x.1, skips_same x.0 y.2, y.3))
  one_answer at (Next.Token t) (Next.NoToken p) x y =
      absurd (y.2 t.kind t.end (subst (λ (i : ℕ). Is text t.kind i t.end) (skips_same x.0 y.0) x.2))
  one_answer at (Next.End p) (Next.Token u) x y =
      absurd (omega (arith, y.1, skips_same y.0 x.2, x.3))
  one_answer at (Next.End p) (Next.End q) x y = ap Next.End (x.0 ∙ sym y.0)
  one_answer at (Next.End p) (Next.NoToken q) x y =
      absurd (omega (arith, y.1, skips_same y.0 x.2, x.3))
  one_answer at (Next.NoToken p) (Next.Token u) x y =
      absurd (x.2 u.kind u.end (subst (λ (i : ℕ). Is text u.kind i u.end) (skips_same y.0 x.0) y.2))
  one_answer at (Next.NoToken p) (Next.End q) x y =
      absurd (omega (arith, x.1, skips_same x.0 y.2, y.3))
  one_answer at (Next.NoToken p) (Next.NoToken q) x y = ap Next.NoToken (skips_same x.0 y.0)

  -- behind the text comes the end
  pub past_end : (p : ℕ) → length text ≤ p → Comes text p (Next.End (length text))
  past_end p h = (refl, p, record { takes = right (nothing refl); most = most }, h)
    where
      most : {k : ℕ} → Takes text (opt sp) p k → k ≤ p
      most (left t) = absurd (end_takes text sp refl h t)
      most (right (nothing e)) = omega (arith, e)
