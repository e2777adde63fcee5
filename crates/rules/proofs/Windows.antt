-- The same bytes in two texts, at places of their own: what a rule takes of the one within them it takes of the other. The bytes between
-- two places, as a text by themselves, are the first use. Assumes nothing.
use mathlib.Core.Path.{◌≡◌, sym, ap, subst, ◌∙◌}
use mathlib.Core.List.{List}
use Prim.Native.Nat.{ℕ, zero, suc, ◌+◌, ◌-◌, ◌≤◌, ◌<◌}
use native.Mathlib.Omega.{arith}
use lib.ListN.{length, get_or, drop, get_or-append}
use lib.Seq.{get_or-drop}
use Rattle.rules.specs.Class.{Class, In}
use Rattle.rules.specs.Rule.{Rule, At, Among, Takes, nothing, byte, both, left, right, stop, more}
use Rattle.rules.specs.Plain.{between}
use Rattle.rules.proofs.Matches.{forward}
use Rattle.rules.proofs.Plain.{length_between, between_stands}

-- the n bytes of a from p on are those of b from q on
pub record Window (a b : List ℕ) (p q n : ℕ) : Type 0 where
  pub from_within : p + n ≤ length a
  pub to_within : q + n ≤ length b
  pub same : (x : ℕ) → x < n → get_or a (p + x) 0 ≡ get_or b (q + x) 0

pub turned : {a b : List ℕ} {p q n : ℕ} → Window a b p q n → Window b a q p n
turned w = record { from_within = w.to_within; to_within = w.from_within; same = λ x h. sym (w.same x h) }

pub among_forward : {text : List ℕ} {r : Rule} {P : ℕ → ℕ → Type 0} {i j : ℕ} → Among text r P i j → i ≤ j
among_forward z = omega (arith, forward z.before, forward z.match, forward z.behind)

-- where a place of the one is in the other
abbrev pub shift : ℕ → ℕ → ℕ → ℕ
shift p q i = q + (i - p)

-- a property of the bytes from i to j that does not tell where they stand
abbrev pub Moves : (List ℕ → ℕ → ℕ → Type 0) → Type 0
Moves F = (a b : List ℕ) (p q n : ℕ) → Window a b p q n → (i j : ℕ) → F a i j → p ≤ i → j ≤ p + n → F b (shift p q i) (shift p q j)

module _ (a b : List ℕ) (p q n : ℕ) (w : Window a b p q n) where
  pub byte_same : (i : ℕ) → p ≤ i → i < p + n → get_or a i 0 ≡ get_or b (shift p q i) 0
  byte_same i h k =
      let e : i ≡ p + (i - p) = omega (arith, h) in
      ap (λ (x : ℕ). get_or a x 0) e ∙ w.same (i - p) (omega (arith, h, k))

  pub at_moved : (c : Class) {i : ℕ} → p ≤ i → i < p + n → At a c i → At b c (shift p q i)
  at_moved c {i} h k x = (omega (arith, h, k, w.to_within), subst (In c) (byte_same i h k) x.1)

  pub moved : {r : Rule} {i j : ℕ} → Takes a r i j → p ≤ i → j ≤ p + n → Takes b r (shift p q i) (shift p q j)
  moved (nothing e) h k = nothing (ap (shift p q) e)
  moved (byte {c} {i} {j} x e) h k =
      let f : shift p q j ≡ shift p q i + 1 = omega (arith, e, h) in
      byte (at_moved c h (omega (arith, k, e)) x) f
  moved (both t u) h k = let x = forward t in let y = forward u in both (moved t h (omega (arith, y, k))) (moved u (omega (arith, x, h)) k)
  moved (left t) h k = left (moved t h k)
  moved (right t) h k = right (moved t h k)
  moved (stop e) h k = stop (ap (shift p q) e)
  moved (more t u) h k = let x = forward t in let y = forward u in more (moved t h (omega (arith, y, k))) (moved u (omega (arith, x, h)) k)

  -- a row of matches, one of which has a property
  unfoldable pub among_moved : (r : Rule) (P Q : ℕ → ℕ → Type 0) → ((i j : ℕ) → P i j → p ≤ i → j ≤ p + n → Q (shift p q i) (shift p q j)) →
      {i j : ℕ} → Among a r P i j → p ≤ i → j ≤ p + n → Among b r Q (shift p q i) (shift p q j)
  among_moved r P Q f z h k =
      let x = forward z.before in let y = forward z.match in let v = forward z.behind in
      record {
        from = shift p q z.from;
        upto = shift p q z.upto;
        before = moved z.before h (omega (arith, y, v, k));
        match = moved z.match (omega (arith, x, h)) (omega (arith, v, k));
        holds = f _ _ z.holds (omega (arith, x, h)) (omega (arith, v, k));
        behind = moved z.behind (omega (arith, x, y, h)) k;
      }

-- ---- the bytes between two places

module _ (text : List ℕ) {i j : ℕ} (p : i ≤ j) (q : j ≤ length text) where
  pub piece_length : length (between text i j) ≡ j - i
  piece_length = omega (arith, length_between text i j p q)

  pub piece_window : Window text (between text i j) i 0 (j - i)
  piece_window =
      record {
        from_within = omega (arith, p, q);
        to_within = omega (arith, piece_length);
        same = λ x h. sym (get_or-drop i text x 0) ∙ ap (λ (l : List ℕ). get_or l x 0) (between_stands text i j)
            ∙ get_or-append (between text i j) (drop (j - i) (drop i text)) 0 x (omega (arith, h, piece_length))
            ∙ ap (λ (y : ℕ). get_or (between text i j) y 0) (omega arith);
      }

  -- a property that moves with its bytes is the text's there just when it is the piece's
  module _ (F : List ℕ → ℕ → ℕ → Type 0) (m : Moves F) where
    pub alone : F text i j → F (between text i j) 0 (length (between text i j))
    alone x =
        let e : shift i 0 i ≡ 0 = omega arith in
        let f : shift i 0 j ≡ length (between text i j) = omega (arith, piece_length) in
        subst (λ (k : ℕ). F (between text i j) k (length (between text i j))) e
        (subst (λ (k : ℕ). F (between text i j) (shift i 0 i) k) f
        (m text (between text i j) i 0 (j - i) piece_window i j x (omega arith) (omega (arith, p))))

    pub there : F (between text i j) 0 (length (between text i j)) → F text i j
    there x =
        let e : shift 0 i 0 ≡ i = omega arith in
        let f : shift 0 i (length (between text i j)) ≡ j = omega (arith, piece_length, p) in
        subst (λ (k : ℕ). F text k j) e
        (subst (λ (k : ℕ). F text (shift 0 i 0) k) f
        (m (between text i j) text 0 i (j - i) (turned piece_window) 0 (length (between text i j)) x (omega arith) (omega (arith, piece_length))))

-- ---- windows made

-- equal bytes between two places of each text
pub same_window : (text other : List ℕ) (i j k l : ℕ) → i ≤ j → j ≤ length text → k ≤ l → l ≤ length other → between text i j ≡ between other k l →
    (l ≡ k + (j - i)) × Window text other i k (j - i)
same_window text other i j k l h g p q e =
    let a = piece_window text h g in
    let b = piece_window other p q in
    let n : j - i ≡ l - k = sym (piece_length text h g) ∙ ap length e ∙ piece_length other p q in (
      omega (arith, n, p),
      record {
        from_within = a.from_within;
        to_within = omega (arith, n, p, q);
        same = λ x m. a.same x m ∙ ap (λ (l : List ℕ). get_or l (0 + x) 0) e ∙ sym (b.same x (omega (arith, m, n)));
      },
    )

-- one byte more
pub window_more : (a b : List ℕ) (p q n : ℕ) → get_or a p 0 ≡ get_or b q 0 → Window a b (p + 1) (q + 1) n → Window a b p q (1 + n)
window_more a b p q n e w = record { from_within = omega (arith, w.from_within); to_within = omega (arith, w.to_within); same = go }
  where
    go : (x : ℕ) → x < 1 + n → get_or a (p + x) 0 ≡ get_or b (q + x) 0
    go zero h = ap (λ (m : ℕ). get_or a m 0) (omega arith) ∙ e ∙ ap (λ (m : ℕ). get_or b m 0) (omega arith)
    go (suc x) h = ap (λ (m : ℕ). get_or a m 0) (omega arith) ∙ w.same x (omega (arith, h)) ∙ ap (λ (m : ℕ). get_or b m 0) (omega arith)

-- what a rule takes moves
pub takes_moves : (r : Rule) → Moves (λ (text : List ℕ). Takes text r)
takes_moves r a b p q n w i j t h k = moved a b p q n w t h k
