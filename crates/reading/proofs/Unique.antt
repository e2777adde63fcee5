-- A reading has one answer at most: number, place, count and every word of the table at exit. Assumes nothing.
use mathlib.Core.Path.{◌≡◌, refl, sym, ap, subst, ◌∙◌}
use mathlib.Core.List.{List, [], ◌++◌}
use mathlib.Core.Option.{Option, some}
use Prim.Native.Nat.{ℕ, ◌*◌}
use native.Mathlib.Omega.{arith}
use lib.ListN.{length, drop}
use Rattle.lexicon.proofs.Determined.{formed_or_bad, one_bad}
use Rattle.grammar.specs.Tree.{Value}
use Rattle.grammar.specs.Yield.{yield_value}
use Rattle.grammar.specs.Level.{Level}
use Rattle.grammar.specs.Nodes.{table, table_words, node_words}
use Rattle.grammar.proofs.OneTree.{one_tree}
use Rattle.reading.specs.declared.Answer.{Answer}
use Rattle.reading.specs.declared.Limits.{Limits}
use Rattle.reading.specs.declared.Rules.{Rules}
use Rattle.reading.specs.Faults.{FirstFault, AllPassed}
use Rattle.reading.specs.Answers.{LevelOf, first, second, answer, Accepted, Reading, nodes_of, Answers, no_level, too_long, not_utf8, faulty, no_room, accepted}
use Rattle.reading.proofs.First.{one_first, all_or_fault, one_passing}

pub one_level : {n : ℕ} {a b : Level} → LevelOf n a → LevelOf n b → a ≡ b
one_level first first = refl
one_level second second = refl

module _ (limits : Limits) (bytes : List ℕ) where
  -- the tree of an accepted text is one
  pub one_tree_lem : {a b : Level} {v w : Value} → a ≡ b → Accepted limits bytes a v → Accepted limits bytes b w → v ≡ w
  one_tree_lem {a} {b} {v} {w} e x y =
      one_tree v w (one_passing bytes limits b (subst (λ (l : Level). AllPassed limits l bytes (yield_value v [])) e x.passed) y.passed)

  -- an accepted text has no fault
  sound : {a b : Level} {v : Value} {n p : ℕ} → a ≡ b → Accepted limits bytes a v → FirstFault limits b bytes n p → ⊥
  sound {a} {b} {v} e x f = all_or_fault bytes limits b (subst (λ (l : Level). AllPassed limits l bytes (yield_value v [])) e x.passed) f

module _ (rules : Rules) (bytes : List ℕ) where
  -- what two answers have in common: all
  abbrev Alike : Answer → Option Value → Answer → Option Value → Type 0
  Alike r t s u = (r ≡ s) × (t ≡ u)

  pub one_reading : {room number : ℕ} {r s : Answer} {t u : Option Value} → Reading rules bytes room number r t → Reading rules bytes room number s u → Alike r t s u
  one_reading (no_level f) (no_level g) = (refl, refl)
  one_reading (no_level f) (too_long l h) = absurd (f _ l)
  one_reading (no_level f) (not_utf8 l h b) = absurd (f _ l)
  one_reading (no_level f) (faulty l h w d) = absurd (f _ l)
  one_reading (no_level f) (no_room l h w a m) = absurd (f _ l)
  one_reading (no_level f) (accepted l h w a m) = absurd (f _ l)
  one_reading (too_long l h) (no_level g) = absurd (g _ l)
  one_reading (too_long l h) (too_long k g) = (refl, refl)
  one_reading (too_long l h) (not_utf8 k g b) = absurd (omega (arith, h, g))
  one_reading (too_long l h) (faulty k g w d) = absurd (omega (arith, h, g))
  one_reading (too_long l h) (no_room k g w a m) = absurd (omega (arith, h, g))
  one_reading (too_long l h) (accepted k g w a m) = absurd (omega (arith, h, g))
  one_reading (not_utf8 l h b) (no_level g) = absurd (g _ l)
  one_reading (not_utf8 l h b) (too_long k g) = absurd (omega (arith, h, g))
  one_reading (not_utf8 l h b) (not_utf8 k g c) = (ap (λ (p : ℕ). answer 3 p 0) (one_bad bytes b c), refl)
  one_reading (not_utf8 l h b) (faulty k g w d) = absurd (formed_or_bad bytes w b)
  one_reading (not_utf8 l h b) (no_room k g w a m) = absurd (formed_or_bad bytes w b)
  one_reading (not_utf8 l h b) (accepted k g w a m) = absurd (formed_or_bad bytes w b)
  one_reading (faulty l h w d) (no_level g) = absurd (g _ l)
  one_reading (faulty l h w d) (too_long k g) = absurd (omega (arith, h, g))
  one_reading (faulty l h w d) (not_utf8 k g b) = absurd (formed_or_bad bytes w b)
  one_reading (faulty {n = m} {p = p} l h w d) (faulty {l = b} {n = n} {p = q} k g x e) =
      let o = one_first bytes rules.limits b (subst (λ (a : Level). FirstFault rules.limits a bytes m p) (one_level l k) d) e in
      ((λ i. answer (o.0 i) (o.1 i) 0), refl)
  one_reading (faulty l h w d) (no_room k g x a m) = absurd (sound rules.limits bytes (one_level k l) a d)
  one_reading (faulty l h w d) (accepted k g x a m) = absurd (sound rules.limits bytes (one_level k l) a d)
  one_reading (no_room l h w a m) (no_level g) = absurd (g _ l)
  one_reading (no_room l h w a m) (too_long k g) = absurd (omega (arith, h, g))
  one_reading (no_room l h w a m) (not_utf8 k g b) = absurd (formed_or_bad bytes w b)
  one_reading (no_room l h w a m) (faulty k g x d) = absurd (sound rules.limits bytes (one_level l k) a d)
  one_reading (no_room l h w a m) (no_room k g x b n) =
      (ap (λ (v : Value). answer 8 (length bytes) (length (table v))) (one_tree_lem rules.limits bytes (one_level l k) a b), refl)
  one_reading (no_room l h w a m) (accepted k g x b n) =
      absurd (omega (arith, m, n, ap (λ (v : Value). length (table v)) (one_tree_lem rules.limits bytes (one_level l k) a b)))
  one_reading (accepted l h w a m) (no_level g) = absurd (g _ l)
  one_reading (accepted l h w a m) (too_long k g) = absurd (omega (arith, h, g))
  one_reading (accepted l h w a m) (not_utf8 k g b) = absurd (formed_or_bad bytes w b)
  one_reading (accepted l h w a m) (faulty k g x d) = absurd (sound rules.limits bytes (one_level l k) a d)
  one_reading (accepted l h w a m) (no_room k g x b n) =
      absurd (omega (arith, m, n, ap (λ (v : Value). length (table v)) (one_tree_lem rules.limits bytes (one_level l k) a b)))
  one_reading (accepted l h w a m) (accepted k g x b n) =
      let e = one_tree_lem rules.limits bytes (one_level l k) a b in
      (ap (λ (v : Value). answer 0 (length bytes) (length (table v))) e, ap (λ (v : Value). some v) e)

-- with the table as well: the tree says what is written over the lent one
pub one_answer : (rules : Rules) (bytes lent : List ℕ) {number : ℕ} {r s : Answer} {t u : List ℕ} → Answers rules bytes lent number r t → Answers rules bytes lent number s u → (r ≡ s) × (t ≡ u)
one_answer rules bytes lent x y =
    let o = one_reading rules bytes x.reading y.reading in
    (o.0, x.left_is ∙ ap (λ (v : Option Value). table_words (nodes_of v) ++ drop (node_words * length (nodes_of v)) lent) o.1 ∙ sym y.left_is)
