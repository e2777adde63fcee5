-- Bytes that stand in a text from a place on: what holds of them there holds of them alone, and the other way round. Assumes nothing.
use mathlib.Core.Path.{◌≡◌, sym, subst, ap, ◌∙◌}
use mathlib.Core.List.{List, ◌++◌}
use Prim.Native.Nat.{ℕ, ◌+◌, ◌≤◌, ◌<◌}
use native.Mathlib.Nat.{add-sub_cancel_left}
use native.Mathlib.Omega.{arith}
use lib.ListN.{length, get_or, drop, length-append, length-drop, get_or-append}
use lib.Seq.{drop-drop, get_or-drop, take-append_seam, drop-append_seam}
use Rattle.rules.specs.Class.{Class, In}
use Rattle.rules.specs.Rule.{Rule, At, Takes}
use Rattle.rules.specs.Plain.{Matches, between}
use Rattle.rules.proofs.Plain.{plain, placed, takes_whole}
use Rattle.rules.proofs.Windows.{Window, turned, Moves, shift}
use Rattle.lexicon.specs.declared.Kind.{Kind}
use Rattle.lexicon.specs.Token.{Bad}
use Rattle.lexicon.proofs.Moved.{bad_moved}

module _ (text bs y : List ℕ) (p : ℕ) (stands : drop p text ≡ bs ++ y) where
  -- the bytes are the text's
  pub byte_same : (x : ℕ) → x < length bs → get_or text (p + x) 0 ≡ get_or bs x 0
  byte_same x h = sym (get_or-drop p text x 0) ∙ ap (λ (l : List ℕ). get_or l x 0) stands ∙ get_or-append bs y 0 x h

  -- and so many stand there
  pub room : 0 < length bs → p + length bs ≤ length text
  room h = omega (arith, length-drop p text, ap length stands, length-append bs y)

  pub at_there : (c : Class) (x : ℕ) → At bs c x → At text c (p + x)
  at_there c x a = (omega (arith, room (omega (arith, a.0)), a.0), subst (In c) (sym (byte_same x a.0)) a.1)

  -- what stands behind them
  pub behind : drop (p + length bs) text ≡ y
  behind = sym (drop-drop (length bs) p text) ∙ ap (drop (length bs)) stands ∙ drop-append_seam bs y

  -- a rule takes them all there just where it takes them alone
  pub there : (r : Rule) → Takes bs r 0 (length bs) → Takes text r p (p + length bs)
  there r t = placed text ((takes_whole r bs).0 t) p y stands

  pub all_between : between text p (p + length bs) ≡ bs
  unfolding between
  all_between = rw (add-sub_cancel_left, stands) (take-append_seam bs y)

  pub alone : (r : Rule) → Takes text r p (p + length bs) → Takes bs r 0 (length bs)
  alone r t = (takes_whole r bs).1 (subst (Matches r) all_between (plain text t))

  -- ---- any property that does not tell where the bytes stand

  window : p ≤ length text → Window text bs p 0 (length bs)
  window h =
      record {
        from_within = omega (arith, h, length-drop p text, ap length stands, length-append bs y);
        to_within = omega arith;
        same = λ x k. byte_same x k ∙ ap (λ (n : ℕ). get_or bs n 0) (omega arith);
      }

  module _ (F : List ℕ → ℕ → ℕ → Type 0) (m : Moves F) (h : p ≤ length text) where
    pub moves_alone : F text p (p + length bs) → F bs 0 (length bs)
    moves_alone x =
        let e : shift p 0 p ≡ 0 = omega arith in
        let f : shift p 0 (p + length bs) ≡ length bs = omega arith in
        subst (λ (k : ℕ). F bs k (length bs)) e
        (subst (λ (k : ℕ). F bs (shift p 0 p) k) f
        (m text bs p 0 (length bs) (window h) p (p + length bs) x (omega arith) (omega arith)))

    pub moves_there : F bs 0 (length bs) → F text p (p + length bs)
    moves_there x =
        let e : shift 0 p 0 ≡ p = omega arith in
        let f : shift 0 p (length bs) ≡ p + length bs = omega arith in
        subst (λ (k : ℕ). F text k (p + length bs)) e
        (subst (λ (k : ℕ). F text (shift 0 p 0) k) f
        (m bs text 0 p (length bs) (turned (window h)) 0 (length bs) x (omega arith) (omega arith)))

  -- a bad value is the bytes' own
  pub bad_alone : (k : Kind) → p ≤ length text → Bad text k p (p + length bs) → Bad bs k 0 (length bs)
  bad_alone k = moves_alone (λ (t : List ℕ). Bad t k) (λ a b p q n w i j x u v. bad_moved a b p q n w k x u v)
