-- The seventh word: after every accepted reading, in a table that is lent with its text, and in that of a plain form. Assumes nothing.
use mathlib.Core.Path.{◌≡◌, sym, ap, subst, ◌∙◌}
use mathlib.Core.List.{List, ◌++◌, map}
use mathlib.Core.Option.{Option, some}
use Prim.Native.Nat.{ℕ, ◌+◌, ◌*◌, ◌≤◌, ◌<◌}
use native.Mathlib.Omega.{arith}
use lib.ListN.{length, drop, length-append, length-drop}
use lib.Seq.{drop_at}
use Rattle.grammar.specs.Tree.{Value}
use Rattle.grammar.specs.Nodes.{Node, skip_word, word_at, table, table_words}
use Rattle.grammar.specs.Stretches.{Stretches}
use Rattle.grammar.proofs.NodeLaws.{table_words_length, as_many, same_at, table_word}
use Rattle.reading.specs.declared.Answer.{Answer}
use Rattle.reading.specs.declared.Rules.{Rules}
use Rattle.reading.specs.Answers.{Answers, accepted}
use Rattle.reading.specs.Tabled.{Holds, Tabled, shown, other_table, refused}
use Rattle.reading.proofs.Numbers.{refused_number}
use Rattle.reading.proofs.Tabled.{held_word, held_stretches}
use Rattle.reading.proofs.Found.{found}
use Rattle.form.specs.Turn.{unspelled}

module _ (rules : Rules) (text : List ℕ) where
  -- what an accepted reading writes, and leaves
  pub seven_each : (lent left : List ℕ) {number : ℕ} {r : Answer} → Answers rules text lent number r left → r.number ≡ 0 →
      (length left ≡ length lent) × (7 * r.count ≤ length lent) × (drop (7 * r.count) left ≡ drop (7 * r.count) lent)
  seven_each lent left {number} a e =
      let f = found rules text lent left number a e in
      let ws = table_words (table f.tree) in
      let n = 7 * length (table f.tree) in
      let written : length ws ≡ n = omega (arith, table_words_length (table f.tree)) in
      let fits : n ≤ length lent = omega (arith, f.few, f.count_is) in
      subst (λ (c : ℕ). (length left ≡ length lent) × (7 * c ≤ length lent) × (drop (7 * c) left ≡ drop (7 * c) lent)) (sym f.count_is) (
        ap length f.left_is ∙ omega (arith, length-append ws (drop n lent), written, fits, length-drop n lent),
        fits,
        ap (drop n) f.left_is ∙ drop_at ws (drop n lent) n written,
      )

  pub own_words : (lent left : List ℕ) {number : ℕ} {r : Answer} → Answers rules text lent number r left → r.number ≡ 0 → Stretches left r.count
  own_words lent left {number} a e =
      let f = found rules text lent left number a e in
      subst (Stretches left) (sym f.count_is) (held_stretches left f.tree f.holds)

  pub lent_words : (words : List ℕ) {level : ℕ} {r : Answer} {t : Option Value} → Tabled rules text words level r t → r.number ≡ 0 → Stretches words r.count
  lent_words words (refused x) e = absurd (refused_number rules text x e)
  lent_words words (other_table x n) e = absurd (omega (arith, e))
  lent_words words (shown {v = v} (accepted l h w a m) is) e = held_stretches words v is

  pub shown_table : (words : List ℕ) {level : ℕ} {r : Answer} {v : Value} → Tabled rules text words level r (some v) → Holds words v
  shown_table words (shown x is) = is

pub same_skips : (v w : Value) (rest words : List ℕ) (i : ℕ) → map unspelled (table v) ≡ map unspelled (table w) → Holds words w → i < length (table w) →
    word_at (table_words (table v) ++ rest) i skip_word ≡ word_at words i skip_word
same_skips v w rest words i e h l =
    table_word (table v) rest i skip_word (omega (arith, as_many unspelled (table v) (table w) e, l)) (omega arith)
    ∙ ap (λ (n : Node). i + n.stretch) (same_at unspelled (table v) (table w) e i)
    ∙ sym (held_word words w h i skip_word l (omega arith))
