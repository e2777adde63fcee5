-- A row of matches one of which has a property, grown by one more match. The rule has one match at most from a place, and takes
-- a byte at least. Assumes nothing.
use mathlib.Core.Path.{◌≡◌, refl, subst, sym, ◌∙◌}
use mathlib.Core.Logic.{◌⊎◌, inl, inr, ⊎_elim}
use mathlib.Core.Bool.{Bool, false, ◌||◌}
use mathlib.Core.List.{List}
use Prim.Native.Nat.{ℕ, ◌<◌}
use native.Mathlib.Omega.{arith}
use Rattle.rules.specs.Test.{Says}
use Rattle.rules.specs.Rule.{Rule, many, Takes, stop, more, Among}
use Rattle.rules.proofs.Bools.{or_cases, or_left, or_right}
use Rattle.rules.proofs.Matches.{forward, starting}
use Rattle.rules.proofs.Tests.{says_no}
use Rattle.rules.proofs.Chains.{Single, move, join, snoc}

-- every match takes a byte at least
pub record Strict (text : List ℕ) (r : Rule) : Type 0 where
  pub less : {i j : ℕ} → Takes text r i j → i < j

-- what holds of two places holds of equal ones
pub place : (P : ℕ → ℕ → Type 0) {i j k l : ℕ} → i ≡ j → k ≡ l → P i k → P j l
place P {i = i} {l = l} d e p = subst (λ (x : ℕ). P x l) d (subst (λ (y : ℕ). P i y) e p)

module _ {text : List ℕ} {r : Rule} {P : ℕ → ℕ → Type 0} where
  -- the last match has the property
  pub found : {i j k : ℕ} → Takes text (many r) i j → Takes text r j k → P j k → Among text r P i k
  found c s p = record { from = _; upto = _; before = c; match = s; holds = p; behind = stop refl }

  -- an earlier one has it
  pub kept : {i j k : ℕ} → Among text r P i j → Takes text r j k → Among text r P i k
  kept a s = record { from = a.from; upto = a.upto; before = a.before; match = a.match; holds = a.holds; behind = snoc a.behind s }

  later : {i m j : ℕ} → Takes text r i m → Among text r P m j → Among text r P i j
  later s a = record { from = a.from; upto = a.upto; before = more s a.before; match = a.match; holds = a.holds; behind = a.behind }

module _ (text : List ℕ) (r : Rule) (P : ℕ → ℕ → Type 0) (single : Single text r) (strict : Strict text r) where
  -- an empty row has no match
  pub none_among : {i : ℕ} → Among text r P i i → ⊥
  none_among a =
      let x = forward a.before in let y = strict.less a.match in let z = forward a.behind in omega arith

  last :
      {i j k x y : ℕ} →
      Takes text (many r) i x → Takes text (many r) i j → Takes text r j k →
      Takes text r x y → P x y → Takes text (many r) y k → Among text r P i j ⊎ P j k
  last (stop d) (stop e) s m p b = inr (place P (sym d ∙ e) (single.same (starting (sym d ∙ e) m) s) p)
  last (stop d) (more t c) s m p b =
      inl (record { from = _; upto = _; before = stop d; match = m; holds = p; behind = move (single.same (starting (sym d) m) t) c })
  last (more t d) (stop e) s m p b =
      let q = single.same (starting e t) s in
      let f = forward d in let g = strict.less m in let h = forward b in absurd (omega arith)
  last (more t d) (more u c) s m p b = ⊎_elim (λ a. inl (later t a)) (λ q. inr q) (last d (move (single.same t u) c) s m p b)

  -- of a row and one more match: an earlier one has it, or the last
  pub which : {i j k : ℕ} → Takes text (many r) i j → Takes text r j k → Among text r P i k → Among text r P i j ⊎ P j k
  which c s a = last a.before c s a.match a.holds a.behind

  -- so a test for each gives a test for the whole
  pub none_said : (i : ℕ) → Says false (Among text r P i i)
  none_said i = says_no none_among

  pub said :
      {i j k : ℕ} {b c : Bool} → Takes text (many r) i j → Takes text r j k → Says b (Among text r P i j) → Says c (P j k) →
      Says (b || c) (Among text r P i k)
  said {i} {j} {k} {b} {c} t s u v =
      record {
        true_holds = λ e. ⊎_elim (λ x. kept (u.true_holds x) s) (λ x. found t s (v.true_holds x)) (or_cases b c e);
        holds_true = λ a. ⊎_elim (λ x. or_left b c (u.holds_true x)) (λ x. or_right b c (v.holds_true x)) (which t s a);
      }

  -- which a match without the property does not change
  pub said_on : {i j k : ℕ} {b : Bool} → Takes text (many r) i j → Takes text r j k → Says b (Among text r P i j) → (P j k → ⊥) → Says b (Among text r P i k)
  said_on t s u n =
      record { true_holds = λ e. kept (u.true_holds e) s; holds_true = λ a. ⊎_elim (λ x. u.holds_true x) (λ p. absurd (n p)) (which t s a) }

  -- a match with the property stands at or behind the end of a row that has none
  pub beyond :
      {i p x y : ℕ} →
      Takes text (many r) i p → (Among text r P i p → ⊥) →
      Takes text (many r) i x → Takes text r x y → P x y → Takes text (many r) p x
  beyond (stop e) n b m h = move (sym e) b
  beyond (more s c) n (stop d) m h =
      absurd (n (record { from = _; upto = _; before = stop d; match = m; holds = h; behind = move (single.same (starting (sym d) m) s) c }))
  beyond (more s c) n (more t d) m h = beyond c (λ a. n (later s a)) (move (single.same s t) d) m h

  -- so a row that has one has a match at that end, too
  pub at_end_lem :
      {Q : ℕ → ℕ → Type 0} {i p j : ℕ} →
      Takes text (many r) i p → (Among text r P i p → ⊥) → ((k : ℕ) → Takes text r p k → Q p k) → Among text r P i j → Among text r Q i j
  at_end_lem {Q} {i} {p} {j} c n q a = go (beyond c n a.before a.match a.holds)
    where
      at : {k : ℕ} → Takes text r p k → Takes text (many r) k j → Among text r Q i j
      at m b = record { from = _; upto = _; before = c; match = m; holds = q _ m; behind = b }

      go : Takes text (many r) p a.from → Among text r Q i j
      go (stop e) = at (starting (sym e) a.match) a.behind
      go (more t d) = at t (join d (more a.match a.behind))
