-- What copies of nodes to the next index write, from the last node to the first. Assumes nothing.
use mathlib.Core.Path.{◌≡◌, refl, sym, ap, ap₂, ◌∙◌}
use mathlib.Core.List.{List, [], ◌∷◌, ◌++◌}
use Prim.Native.Nat.{ℕ, zero, suc, ◌+◌, ◌-◌, ◌*◌, ◌≤◌, ◌<◌}
use native.Mathlib.Omega.{arith}
use lib.ListN.{length, take, drop, set}
use Rattle.std.specs.List.{copy_within}
use Rattle.rules.specs.Over.{over}
use Rattle.rules.proofs.Over.{over_length, over_nothing, over_append, over_swap, over_before, over_set}
use Rattle.grammar.specs.Nodes.{node_words, parent_word, role_word, skip_word, word_at}
use Rattle.table.proofs.Stores.{words_at, over_between}
use Rattle.table.specs.Over.{capped, under, lifted, raised, Raised}

-- a copy, and the two words that are changed in it
pub copied : {t' : List ℕ} (t : List ℕ) (i p q : ℕ) → (i + 2) * node_words ≤ length t →
    t' ≡ copy_within t (i * node_words) (i * node_words + node_words) (i * node_words + node_words) →
    q ≡ capped (word_at t i skip_word + 1) →
    set (set t' (i * node_words + node_words + parent_word) p) (i * node_words + node_words + skip_word) q ≡ over t ((i + 1) * node_words) (under t i p)
copied {t'} t i p q h e g =
    let k = i * node_words + node_words in
    let ws = word_at t i 0 ∷ word_at t i 1 ∷ word_at t i 2 ∷ word_at t i 3 ∷ word_at t i 4 ∷ word_at t i 5 ∷ word_at t i 6 ∷ [] in
    let vs = word_at t i 0 ∷ word_at t i 1 ∷ word_at t i 2 ∷ p ∷ word_at t i 4 ∷ word_at t i 5 ∷ word_at t i 6 ∷ [] in
    let seven : k - i * node_words ≡ 7 = omega arith in
    let whole : t' ≡ over t k ws =
    e
    ∙ ap (λ (n : ℕ). take k t ++ take n (drop (i * node_words) t) ++ drop (k + n) t) seven
    ∙ ap (λ (l : List ℕ). take k t ++ l ++ drop (k + 7) t) (words_at t i (omega (arith, h)))
    ∙ over_between t k (k + 7) ws refl (omega (arith, h)) in
    let first : set t' (k + parent_word) p ≡ over t k vs =
    ap (λ (l : List ℕ). set l (k + parent_word) p) whole ∙ over_set t k (k + parent_word) parent_word p ws refl (omega arith) in
    ap₂ (λ (l : List ℕ) (n : ℕ). set l (k + skip_word) n) first g
    ∙ over_set t k (k + skip_word) skip_word _ vs refl (omega arith)
    ∙ ap (λ (n : ℕ). over t n (under t i p)) (omega arith)

-- before what was written a node is as it was
same_word : {t' : List ℕ} (t : List ℕ) (j m : ℕ) (ws : List ℕ) → m < node_words → t' ≡ over t ((j + 2) * node_words) ws → word_at t' j m ≡ word_at t j m
same_word t j m ws h e =
    ap (λ (x : List ℕ). word_at x j m) e ∙ over_before t ((j + 2) * node_words) (j * node_words + m) ws (omega arith)

under_same : {t' : List ℕ} (t : List ℕ) (j p q : ℕ) (ws : List ℕ) → t' ≡ over t ((j + 2) * node_words) ws → p ≡ q → under t' j p ≡ under t j q
under_same {t'} t j p q ws e g =
    let word : (m : ℕ) → m < node_words → word_at t' j m ≡ word_at t j m = λ m h. same_word t j m ws h e in
    λ x. word 0 (omega arith) x ∷ word 1 (omega arith) x ∷ word 2 (omega arith) x ∷ g x ∷ word role_word (omega arith) x ∷ word 5 (omega arith) x
    ∷ capped (word skip_word (omega arith) x + 1) ∷ []

-- a copy of the node before those that were moved
before_moved : {t' t'' : List ℕ} (t : List ℕ) (j p q : ℕ) (ws : List ℕ) →
    t' ≡ over t ((j + 2) * node_words) ws → t'' ≡ over t' ((j + 1) * node_words) (under t' j p) → p ≡ q →
    t'' ≡ over t ((j + 1) * node_words) (under t j q ++ ws)
before_moved {t'} {t''} t j p q ws e s g =
    let k = (j + 1) * node_words in
    let l = (j + 2) * node_words in
    s
    ∙ ap₂ (λ (x y : List ℕ). over x k y) e (under_same t j p q ws e g)
    ∙ over_swap t k l (under t j q) ws (omega arith)
    ∙ sym (over_append t k l (under t j q) ws (omega arith))

-- t' is t once the nodes from index j on were moved, of n from index i on
pub record Moved (t t' : List ℕ) (i n j : ℕ) : Type 0 where
  pub behind : i < j
  pub within : j ≤ i + n
  pub is : t' ≡ over t ((j + 1) * node_words) (lifted t j (i + n - j))

pub moved_length : {t t' : List ℕ} {i n j : ℕ} → Moved t t' i n j → length t' ≡ length t
moved_length {t} {t'} {i} {n} {j} d = ap length d.is ∙ over_length t _ _

raised_some : (t : List ℕ) (i n : ℕ) → 1 ≤ n → under t i (capped i) ++ lifted t (i + 1) (n - 1) ≡ raised t i n
raised_some t i zero h = absurd (omega arith)
raised_some t i (suc n) h =
    let e : suc n - 1 ≡ n = omega arith in
    ap (λ (m : ℕ). under t i (capped i) ++ lifted t (i + 1) m) e

module _ (t : List ℕ) (i n : ℕ) where
  -- none yet
  pub moved_none : 1 ≤ n → Moved t t i n (i + n)
  moved_none h =
      let k = (i + n + 1) * node_words in
      let z : i + n - (i + n) ≡ 0 = omega arith in
      record { behind = omega arith; within = omega arith; is = sym (ap (λ (x : ℕ). over t k (lifted t (i + n) x)) z ∙ over_nothing t k) }

  -- one more, at index m
  pub moved_more : {t' t'' : List ℕ} {j m p : ℕ} → Moved t t' i n j → j ≡ m + 1 → i < m →
      p ≡ capped (word_at t' m parent_word + 1) → t'' ≡ over t' ((m + 1) * node_words) (under t' m p) → Moved t t'' i n m
  moved_more {t'} {t''} {j} {m} {p} d x h e s =
      let ws = lifted t (m + 1) (i + n - j) in
      let moved : t' ≡ over t ((m + 2) * node_words) ws =
      d.is ∙ (λ y. over t ((x y + 1) * node_words) (lifted t (x y) (i + n - j))) ∙ ap (λ (k : ℕ). over t k ws) (omega arith) in
      let q : p ≡ capped (word_at t m parent_word + 1) = e ∙ ap (λ (y : ℕ). capped (y + 1)) (same_word t m parent_word ws (omega arith) moved) in
      let c : suc (i + n - j) ≡ i + n - m = omega (arith, d.within, x) in
      record {
        behind = h;
        within = omega (arith, d.within, x);
        is = before_moved t m p _ ws moved s q ∙ ap (λ (y : ℕ). over t ((m + 1) * node_words) (lifted t m y)) c;
      }

  -- and at last the first
  pub moved_all : {t' t'' : List ℕ} {j p : ℕ} → (i + n + 1) * node_words ≤ length t → Moved t t' i n j → j ≤ i + 1 →
      p ≡ capped i → t'' ≡ over t' ((i + 1) * node_words) (under t' i p) → Raised t t'' i n
  moved_all {t'} {t''} {j} {p} f d h e s =
      let ws = lifted t (i + 1) (n - 1) in
      let a : j ≡ i + 1 = omega (arith, h, d.behind) in
      let b : j + 1 ≡ i + 2 = omega (arith, a) in
      let c : i + n - j ≡ n - 1 = omega (arith, a) in
      let moved : t' ≡ over t ((i + 2) * node_words) ws =
      d.is ∙ (λ x. over t (b x * node_words) (lifted t (a x) (c x))) in
      record {
        fits = λ g. before_moved t i p _ ws moved s e ∙ ap (λ (x : List ℕ). over t ((i + 1) * node_words) x) (raised_some t i n (omega (arith, d.within, a)));
        else = λ g. absurd (omega (arith, f, g));
      }

  -- ---- nothing moved

  pub raised_none : n ≡ 0 → Raised t t i n
  raised_none e =
      let k = (i + 1) * node_words in
      record { fits = λ h. sym (ap (λ (m : ℕ). over t k (raised t i m)) e ∙ over_nothing t k); else = λ h. refl }

  pub not_raised : length t < (i + n + 1) * node_words → Raised t t i n
  not_raised g = record { fits = λ h. absurd (omega arith); else = λ h. refl }
