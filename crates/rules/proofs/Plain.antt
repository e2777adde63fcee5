-- What a rule takes of a text from i to j is what it matches: the bytes between i and j. Assumes nothing.
use mathlib.Core.Path.{◌≡◌, refl, sym, ap, subst, ◌∙◌}
use mathlib.Core.Logic.{◌↔◌}
use mathlib.Core.List.{List, [], ◌∷◌, ◌++◌, append_assoc}
use Prim.Native.Nat.{ℕ, ◌+◌, ◌-◌, ◌≤◌, ◌<◌}
use native.Mathlib.Nat.{add-zero, sub-zero, sub_self, add-sub_cancel_left, add-sub_of_le}
use native.Mathlib.Omega.{arith}
use lib.ListN.{length, get_or, take, drop, length-append, length-drop, take-append-drop}
use lib.Seq.{take-add, drop-drop, drop-cons, get_or-drop, length-take-le, take-length, take-append_seam, drop-append_seam}
use Rattle.rules.specs.Class.{Class, In}
use Rattle.rules.specs.Rule.{Rule, row, At, Takes, nothing, byte, both, left, right, stop, more}
use Rattle.rules.specs.Plain.{Matches, no_byte, one_byte, joined, in_left, in_right, no_more, one_more, between}
use Rattle.rules.proofs.Classes.{just_is}
use Rattle.rules.proofs.Matches.{forward, ending}

module _ (text : List ℕ) where
  -- ---- from places to bytes

  -- between a place and itself, around one byte, around two parts, and all
  pub none_between : (i j : ℕ) → i ≡ j → between text i j ≡ []
  unfolding between
  none_between i j e = rw (← e, sub_self)

  pub one_between : (i : ℕ) → i < length text → between text i (i + 1) ≡ get_or text i 0 ∷ []
  unfolding between
  one_between i h = rw (add-sub_cancel_left, drop-cons text i 0)

  pub joined_between : (i m j : ℕ) → i ≤ m → m ≤ j → between text i m ++ between text m j ≡ between text i j
  unfolding between
  joined_between i m j p q =
      let e : j - i ≡ (m - i) + (j - m) = omega arith in
      rw (e, take-add, drop-drop, add-sub_of_le)

  pub whole_between : between text 0 (length text) ≡ text
  unfolding between
  whole_between = rw (sub-zero, take-length)

  pub plain : {r : Rule} {i j : ℕ} → Takes text r i j → Matches r (between text i j)
  plain (nothing {i} {j} e) = rw (none_between i j e) no_byte
  plain (byte {i = i} a e) = rw (e, one_between i a.0) (one_byte a.1)
  plain (both {i = i} {m} {j} t u) = subst (Matches _) (joined_between i m j (forward t) (forward u)) (joined (plain t) (plain u))
  plain (left t) = in_left (plain t)
  plain (right t) = in_right (plain t)
  plain (stop {i = i} {j} e) = rw (none_between i j e) no_more
  plain (more {i = i} {m} {j} t u) = subst (Matches _) (joined_between i m j (forward t) (forward u)) (one_more (plain t) (plain u))

  -- ---- from bytes to places

  -- a byte that stands at the front of the text from i on stands at i
  pub byte_is : (i : ℕ) {b : ℕ} {y : List ℕ} → drop i text ≡ b ∷ y → get_or text i 0 ≡ b
  byte_is i e = ap (λ (n : ℕ). get_or text n 0) (sym (add-zero i)) ∙ sym (get_or-drop i text 0 0) ∙ ap (λ (l : List ℕ). get_or l 0 0) e

  pub byte_stands : (c : Class) (i : ℕ) {b : ℕ} {y : List ℕ} → In c b → drop i text ≡ b ∷ y → At text c i
  byte_stands c i h e = (omega (arith, length-drop i text, ap length e), subst (In c) (sym (byte_is i e)) h)

  -- what stands behind the first of two
  pub second_stands : (a b : List ℕ) (i : ℕ) (y : List ℕ) → drop i text ≡ (a ++ b) ++ y → drop (i + length a) text ≡ b ++ y
  second_stands a b i y e = sym (drop-drop (length a) i text) ∙ ap (drop (length a)) (e ∙ append_assoc a b y) ∙ drop-append_seam a (b ++ y)

  -- where the second of two ends
  two_end : (a b : List ℕ) (i : ℕ) → i + length a + length b ≡ i + length (a ++ b)
  two_end a b i = omega (arith, length-append a b)

  -- the rule takes the bytes that it matches wherever they stand
  pub placed : {r : Rule} {a : List ℕ} → Matches r a → (i : ℕ) (y : List ℕ) → drop i text ≡ a ++ y → Takes text r i (i + length a)
  placed no_byte i y e = nothing (sym (add-zero i))
  placed (one_byte {c = c} h) i y e = byte (byte_stands c i h e) refl
  placed (joined {a = a} {b = b} t u) i y e =
      both (placed t i (b ++ y) (e ∙ append_assoc a b y)) (ending (two_end a b i) (placed u (i + length a) y (second_stands a b i y e)))
  placed (in_left t) i y e = left (placed t i y e)
  placed (in_right t) i y e = right (placed t i y e)
  placed no_more i y e = stop (sym (add-zero i))
  placed (one_more {a = a} {b = b} t u) i y e =
      more (placed t i (b ++ y) (e ∙ append_assoc a b y)) (ending (two_end a b i) (placed u (i + length a) y (second_stands a b i y e)))

  -- the bytes between end at j, and the text from i on begins with them
  pub length_between : (i j : ℕ) → i ≤ j → j ≤ length text → i + length (between text i j) ≡ j
  unfolding between
  length_between i j p q = omega (arith, length-take-le (j - i) (drop i text) (omega (arith, length-drop i text)))

  pub between_stands : (i j : ℕ) → drop i text ≡ between text i j ++ drop (j - i) (drop i text)
  unfolding between
  between_stands i j = sym (take-append-drop (j - i) (drop i text))

  -- and behind them with the rest
  pub rest_stands : (i j : ℕ) → i ≤ j → drop i text ≡ between text i j ++ drop j text
  rest_stands i j h =
      let e : i + (j - i) ≡ j = omega (arith, h) in
      between_stands i j ∙ ap (λ (l : List ℕ). between text i j ++ l) (drop-drop (j - i) i text ∙ ap (λ (n : ℕ). drop n text) e)

  -- the bytes before a place
  pub before_is : (i : ℕ) → between text 0 i ≡ take i text
  unfolding between
  before_is i = ap (λ (n : ℕ). take n text) (sub-zero i)

  -- the rule takes the text from i to j just where it matches the bytes between; that a match is forward and inside the text,
  -- proofs/Matches.antt shows
  pub takes_matches : (r : Rule) (i j : ℕ) → i ≤ j → j ≤ length text → Takes text r i j ↔ Matches r (between text i j)
  takes_matches r i j p q =
      (λ t. plain t, λ m. ending (length_between i j p q) (placed m i (drop (j - i) (drop i text)) (between_stands i j)))

-- ---- the bytes written out

-- anywhere in a text, with x before them and y behind
pub takes_amid : (r : Rule) (x a y : List ℕ) → Takes (x ++ a ++ y) r (length x) (length x + length a) ↔ Matches r a
unfolding between
takes_amid r x a y =
    subst (λ (l : List ℕ). Takes (x ++ a ++ y) r (length x) (length x + length a) ↔ Matches r l) amid
    (takes_matches (x ++ a ++ y) r (length x) (length x + length a) (omega arith) (simp length-append (omega arith)))
  where
    amid : between (x ++ a ++ y) (length x) (length x + length a) ≡ a
    amid = rw (add-sub_cancel_left, append_assoc, drop-append_seam, take-append_seam)

-- and as the whole text
pub takes_whole : (r : Rule) (a : List ℕ) → Takes a r 0 (length a) ↔ Matches r a
takes_whole r a =
    subst (λ (l : List ℕ). Takes a r 0 (length a) ↔ Matches r l) (whole_between a) (takes_matches a r 0 (length a) (omega arith) (omega arith))

-- ---- exactly these bytes

-- a row of bytes matches itself alone
pub row_matches : (bs : List ℕ) {a : List ℕ} → Matches (row bs) a → a ≡ bs
row_matches [] no_byte = refl
row_matches (b ∷ []) (one_byte h) = ap (λ (x : ℕ). x ∷ []) (just_is b _ h)
row_matches (b ∷ c ∷ bs) (joined (one_byte h) m) = cc (just_is b _ h, row_matches (c ∷ bs) m)

-- so the places of a row of bytes fix them
pub row_same : (text bs cs : List ℕ) {i j : ℕ} → Takes text (row bs) i j → Takes text (row cs) i j → bs ≡ cs
row_same text bs cs t u = sym (row_matches bs (plain text t)) ∙ row_matches cs (plain text u)
