-- Where the matches of a rule end, computed: all ends of matches from given places, neither more nor fewer. Assumes nothing.
use mathlib.Core.Path.{◌≡◌, refl, sym, subst}
use mathlib.Core.Logic.{◌⊎◌, inl, inr, ⊎_elim}
use mathlib.Core.Bool.{Bool, true, false, ◌&&◌, false≢true}
use mathlib.Core.List.{List, [], ◌∷◌, ◌++◌}
use Prim.Native.Nat.{ℕ, zero, suc, ◌+◌, ◌≤◌}
use native.Mathlib.Omega.{arith}
use borrow.Author.Tests.{leb-true, leb-false, ltb-true, lt-ltb}
use lib.Dec.{leb, ltb}
use lib.ListN.{length, get_or}
use Rattle.rules.specs.Class.{Class, has}
use Rattle.rules.specs.Rule.{Rule, empty, one, ◌then◌, ◌or◌, many, At, Takes, nothing, byte, both, left, right, stop, more, Longest}
use Rattle.rules.proofs.Bools.{and_left, and_right, and_both, decide, clash}
use Rattle.rules.proofs.Matches.{forward}
use Rattle.rules.proofs.Chains.{snoc}
use Rattle.decisions.proofs.Places.{member, ◌∈◌, keep, union, minus, here, there, first_or_rest, only, in_place, moved, append_left, append_right, in_append, in_union, union_left, union_right, in_minus, minus_or}

-- what is reached by steps from the places seen, the last of them being S
abbrev closure : (List ℕ → List ℕ) → ℕ → List ℕ → List ℕ → List ℕ
closure f zero seen S = seen
closure f (suc n) seen [] = seen
closure f (suc n) seen (s ∷ S) = let new = minus (f (s ∷ S)) seen in closure f n (new ++ seen) new

module _ (text : List ℕ) where
  abbrev pub stands : Class → ℕ → Bool
  stands c i = ltb i (length text) && has c (get_or text i 0)

  abbrev behind : Class → List ℕ → List ℕ
  behind c [] = []
  behind c (s ∷ S) = keep (stands c s) (s + 1) (behind c S)

  -- the places at which a match of the rule that begins at one of the places ends; as many steps as bytes are enough for `many`
  abbrev pub ends : Rule → List ℕ → List ℕ
  ends empty S = S
  ends (one c) S = behind c S
  ends (a then b) S = ends b (ends a S)
  ends (a or b) S = union (ends a S) (ends b S)
  ends (many r) S = closure (λ T. ends r T) (length text) S S

  -- ---- no more

  pub record From (r : Rule) (S : List ℕ) (k : ℕ) : Type 0 where
    pub start : ℕ
    pub among : start ∈ S
    pub takes : Takes text r start k

  keep_cases : (b : Bool) (k s : ℕ) (S : List ℕ) → k ∈ keep b s S → ((b ≡ true) × (k ≡ s)) ⊎ (k ∈ S)
  keep_cases true k s S h = ⊎_elim (λ e. inl (refl, e)) (λ e. inr e) (first_or_rest k s S h)
  keep_cases false k s S h = inr h

  pub stands_at : (c : Class) (i : ℕ) → stands c i ≡ true → At text c i
  stands_at c i e =
      (ltb-true i (length text) (and_left (ltb i (length text)) (has c (get_or text i 0)) e), and_right (ltb i (length text)) (has c (get_or text i 0)) e)

  at_stands : (c : Class) (i : ℕ) → At text c i → stands c i ≡ true
  at_stands c i a = and_both (ltb i (length text)) (has c (get_or text i 0)) (lt-ltb i (length text) a.0) a.1

  behind_from : (c : Class) (S : List ℕ) (k : ℕ) → k ∈ behind c S → From (one c) S k
  behind_from c [] k h = absurd (false≢true h)
  behind_from c (s ∷ S) k h = go (keep_cases (stands c s) k (s + 1) (behind c S) h) (λ x. behind_from c S k x)
    where
      go : ((stands c s ≡ true) × (k ≡ s + 1)) ⊎ (k ∈ behind c S) → (k ∈ behind c S → From (one c) S k) → From (one c) (s ∷ S) k
      go (inl x) f = record { start = s; among = here s S; takes = byte (stands_at c s x.0) x.1 }
      go (inr x) f = let y = f x in record { start = y.start; among = there y.start s S y.among; takes = y.takes }

  closure_from : (r : Rule) (f : List ℕ → List ℕ) → ((S : List ℕ) (k : ℕ) → k ∈ f S → From r S k) → (Z : List ℕ) (n : ℕ) (seen S : List ℕ) →
      ((k : ℕ) → k ∈ seen → From (many r) Z k) → ((k : ℕ) → k ∈ S → From (many r) Z k) → (k : ℕ) → k ∈ closure f n seen S → From (many r) Z k
  closure_from r f h Z zero seen S o p k x = o k x
  closure_from r f h Z (suc n) seen [] o p k x = o k x
  closure_from r f h Z (suc n) seen (s ∷ S) o p k x =
      closure_from r f h Z n (minus (f (s ∷ S)) seen ++ seen) (minus (f (s ∷ S)) seen)
      (λ m y. ⊎_elim (λ z. reached m z) (λ z. o m z) (in_append m (minus (f (s ∷ S)) seen) seen y)) (λ m y. reached m y) k x
    where
      reached : (m : ℕ) → m ∈ minus (f (s ∷ S)) seen → From (many r) Z m
      reached m y =
          let z = h (s ∷ S) m (in_minus m (f (s ∷ S)) seen y) in
          let w = p z.start z.among in
          record { start = w.start; among = w.among; takes = snoc w.takes z.takes }

  pub ends_from : (r : Rule) (S : List ℕ) (k : ℕ) → k ∈ ends r S → From r S k
  ends_from empty S k h = record { start = k; among = h; takes = nothing refl }
  ends_from (one c) S k h = behind_from c S k h
  ends_from (a then b) S k h =
      let y = ends_from b (ends a S) k h in
      let x = ends_from a S y.start y.among in
      record { start = x.start; among = x.among; takes = both x.takes y.takes }
  ends_from (a or b) S k h = go (in_union k (ends a S) (ends b S) h) (λ x. ends_from a S k x) (λ x. ends_from b S k x)
    where
      go : (k ∈ ends a S) ⊎ (k ∈ ends b S) → (k ∈ ends a S → From a S k) → (k ∈ ends b S → From b S k) → From (a or b) S k
      go (inl x) f g = let y = f x in record { start = y.start; among = y.among; takes = left y.takes }
      go (inr x) f g = let y = g x in record { start = y.start; among = y.among; takes = right y.takes }
  ends_from (many r) S k h = closure_from r (λ T. ends r T) (λ T m x. ends_from r T m x) S (length text) S S start start k h
    where
      start : (m : ℕ) → m ∈ S → From (many r) S m
      start m x = record { start = m; among = x; takes = stop refl }

  -- ---- no fewer

  keep_rest : (b : Bool) (k s : ℕ) (S : List ℕ) → k ∈ S → k ∈ keep b s S
  keep_rest true k s S h = there k s S h
  keep_rest false k s S h = h

  keep_here : (b : Bool) (k s : ℕ) (S : List ℕ) → b ≡ true → k ≡ s → k ∈ keep b s S
  keep_here true k s S e h = in_place k s S h
  keep_here false k s S e h = absurd (false≢true e)

  behind_all : (c : Class) (S : List ℕ) (i k : ℕ) → i ∈ S → At text c i → k ≡ i + 1 → k ∈ behind c S
  behind_all c [] i k h a e = absurd (false≢true h)
  behind_all c (s ∷ S) i k h a e =
      ⊎_elim
      (λ x. keep_here (stands c s) k (s + 1) (behind c S) (at_stands c s (subst (λ (y : ℕ). At text c y) x a)) (omega (arith, e, x)))
      (λ x. keep_rest (stands c s) k (s + 1) (behind c S) (behind_all c S i k x a e))
      (first_or_rest i s S h)

  closure_keeps : (f : List ℕ → List ℕ) (n : ℕ) (seen S : List ℕ) (k : ℕ) → k ∈ seen → k ∈ closure f n seen S
  closure_keeps f zero seen S k h = h
  closure_keeps f (suc n) seen [] k h = h
  closure_keeps f (suc n) seen (s ∷ S) k h =
      closure_keeps f n (minus (f (s ∷ S)) seen ++ seen) (minus (f (s ∷ S)) seen) k (append_right k (minus (f (s ∷ S)) seen) seen h)

  -- a match does not end behind a place that is not before its start and not inside the text
  bounded : {r : Rule} {i j : ℕ} (n : ℕ) → length text ≤ n → Takes text r i j → i ≤ n → j ≤ n
  bounded n e (nothing x) h = omega (arith, x, h)
  bounded n e (byte a x) h = omega (arith, e, a.0, x)
  bounded n e (both t u) h = bounded n e u (bounded n e t h)
  bounded n e (left t) h = bounded n e t h
  bounded n e (right t) h = bounded n e t h
  bounded n e (stop x) h = omega (arith, x, h)
  bounded n e (more t u) h = bounded n e u (bounded n e t h)

  -- a step from a place seen, unless it is of the last ones, leads to a place seen
  abbrev Closed : Rule → List ℕ → List ℕ → Type 0
  Closed r seen S = (i m : ℕ) → i ∈ seen → member i S ≡ false → Takes text r i m → m ∈ seen

  along : {r : Rule} (seen : List ℕ) → Closed r seen [] → {i k : ℕ} → i ∈ seen → Takes text (many r) i k → k ∈ seen
  along seen c {i} {k} h (stop e) = moved k i seen (sym e) h
  along seen c {i} {k} h (more {m = m} t u) = along seen c (c i m h refl t) u

  module _ (r : Rule) (f : List ℕ → List ℕ) (all : (S : List ℕ) (i k : ℕ) → i ∈ S → Takes text r i k → k ∈ f S) where
    closure_all : (n : ℕ) (seen S : List ℕ) → Closed r seen S → (i k : ℕ) → i ∈ seen → Takes text (many r) i k → k ≤ i + n → k ∈ closure f n seen S
    closure_all zero seen S c i k h t b = moved k i seen (omega (arith, b, forward t)) h
    closure_all (suc n) seen [] c i k h t b = along seen c h t
    closure_all (suc n) seen (s ∷ S) c i k h t b = go i h t b (λ j x u y. closure_all n (new ++ seen) new closed j k x u y)
      where
        new : List ℕ
        new = minus (f (s ∷ S)) seen

        next : (j m : ℕ) → j ∈ seen → Takes text r j m → m ∈ new ++ seen
        next j m x u =
            ⊎_elim
            (λ y.
            ⊎_elim (λ z. append_left m new seen z) (λ z. append_right m new seen z) (minus_or m (f (s ∷ S)) seen (all (s ∷ S) j m y u)))
            (λ y. append_right m new seen (c j m x y u))
            (decide (member j (s ∷ S)))

        closed : Closed r (new ++ seen) new
        closed j m x y u = ⊎_elim (λ z. absurd (clash z y)) (λ z. next j m z u) (in_append j new seen x)

        go : (i : ℕ) → i ∈ seen → Takes text (many r) i k → k ≤ i + suc n →
            ((j : ℕ) → j ∈ new ++ seen → Takes text (many r) j k → k ≤ j + n → k ∈ closure f n (new ++ seen) new) → k ∈ closure f (suc n) seen (s ∷ S)
        go i h (stop e) b again = closure_keeps f (suc n) seen (s ∷ S) k (moved k i seen (sym e) h)
        go i h (more {m = m} t u) b again =
            ⊎_elim
            (λ e. go m (moved m i seen e h) u (omega (arith, b, e)) again)
            (λ e. again m (next i m h t) u (omega (arith, b, e)))
            (⊎_elim (λ e. inl (omega (arith, leb-true m i e, forward t))) (λ e. inr (leb-false m i e)) (decide (leb m i)))

  pub all_ends : (r : Rule) (S : List ℕ) (i k : ℕ) → i ∈ S → Takes text r i k → k ∈ ends r S
  all_ends empty S i k h (nothing e) = moved k i S (sym e) h
  all_ends (one c) S i k h (byte a e) = behind_all c S i k h a e
  all_ends (a then b) S i k h (both {m = m} t u) = all_ends b (ends a S) m k (all_ends a S i m h t) u
  all_ends (a or b) S i k h (left t) = union_left k (ends a S) (ends b S) (all_ends a S i k h t)
  all_ends (a or b) S i k h (right t) = union_right k (ends a S) (ends b S) (all_ends b S i k h t)
  all_ends (many r) S i k h t =
      closure_all r (λ T. ends r T) (λ T j m x u. all_ends r T j m x u) (length text) S S (λ j m x y u. absurd (clash x y)) i k h t
      (bounded (i + length text) (omega arith) t (omega arith))

  -- ---- the longest match

  -- the greatest of the places, m among them
  abbrev pub top : ℕ → List ℕ → ℕ
  top m [] = m
  top m (s ∷ S) = elim (leb m s) [ true ↦ top s S | false ↦ top m S ]

  pub top_in : (m : ℕ) (S : List ℕ) → top m S ∈ m ∷ S
  top_in m [] = here m []
  top_in m (s ∷ S) = go (leb m s) (top_in s S) (top_in m S)
    where
      go : (b : Bool) → top s S ∈ s ∷ S → top m S ∈ m ∷ S → elim b [ true ↦ top s S | false ↦ top m S ] ∈ m ∷ s ∷ S
      go true x y = there (top s S) m (s ∷ S) x
      go false x y =
          ⊎_elim (λ e. in_place (top m S) m (s ∷ S) e) (λ e. there (top m S) m (s ∷ S) (there (top m S) s S e)) (first_or_rest (top m S) m S y)

  pub top_most : (m : ℕ) (S : List ℕ) (k : ℕ) → k ∈ m ∷ S → k ≤ top m S
  top_most m [] k h = omega (arith, only k m h)
  top_most m (s ∷ S) k h = go (leb m s) refl (λ j x. top_most s S j x) (λ j x. top_most m S j x)
    where
      go : (b : Bool) → leb m s ≡ b → ((j : ℕ) → j ∈ s ∷ S → j ≤ top s S) → ((j : ℕ) → j ∈ m ∷ S → j ≤ top m S) → k ≤ elim b [ true ↦ top s S | false ↦ top m S ]
      go true e f g =
          ⊎_elim (λ x. omega (arith, x, leb-true m s e, f s (here s S))) (λ x. f k x) (first_or_rest k m (s ∷ S) h)
      go false e f g =
          ⊎_elim (λ x. g k (in_place k m S x))
          (λ x. ⊎_elim (λ y. omega (arith, y, leb-false m s e, g m (here m S))) (λ y. g k (there k m S y)) (first_or_rest k s S x))
          (first_or_rest k m (s ∷ S) h)

  -- all ends from one place, and the furthest
  abbrev pub ends_at : Rule → ℕ → List ℕ
  ends_at r i = ends r (i ∷ [])

  abbrev pub furthest : Rule → ℕ → ℕ
  furthest r i = top i (ends_at r i)

  pub takes_end : (r : Rule) (i k : ℕ) → k ∈ ends_at r i → Takes text r i k
  takes_end r i k h = let x = ends_from r (i ∷ []) k h in subst (λ (y : ℕ). Takes text r y k) (only x.start i x.among) x.takes

  pub end_among : (r : Rule) (i k : ℕ) → Takes text r i k → k ∈ ends_at r i
  end_among r i k t = all_ends r (i ∷ []) i k (here i []) t

  -- a rule that may take nothing
  pub furthest_longest : (r : Rule) (i : ℕ) → Takes text r i i → Longest text r i (furthest r i)
  furthest_longest r i t =
      record {
        takes = ⊎_elim (λ e. subst (λ (y : ℕ). Takes text r i y) (sym e) t) (λ x. takes_end r i (furthest r i) x) (first_or_rest (furthest r i) i (ends_at r i) (top_in i (ends_at r i)));
        most = λ {k} u. top_most i (ends_at r i) k (there k i (ends_at r i) (end_among r i k u));
      }
