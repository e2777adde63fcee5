-- What the converter writes: twice the text is room enough for it, other rules read it, and it is what the writer gives where both accept the text. Assumes
-- nothing.
use mathlib.Core.Path.{◌≡◌, sym, ap, subst}
use mathlib.Core.List.{List, ◌++◌}
use mathlib.Core.Option.{none, some}
use Prim.Native.Nat.{ℕ, ◌*◌, ◌≤◌}
use native.Mathlib.Omega.{arith}
use lib.ListN.{length, take, drop}
use lib.Seq.{take-append_seam}
use Rattle.grammar.specs.Tree.{Value}
use Rattle.grammar.specs.Nodes.{table, table_words, node_words}
use Rattle.reading.specs.declared.Answer.{Answer}
use Rattle.reading.specs.declared.Rules.{Rules}
use Rattle.reading.specs.Sizes.{room, with_arrow}
use Rattle.reading.specs.Answers.{Reading, answer, accepted}
use Rattle.reading.specs.Tabled as Tabled
use Rattle.reading.specs.Buffer.{no_room, written}
use Rattle.reading.proofs.Numbers.{refused_number}
use Rattle.reading.proofs.Arrow.{accepted_old}
use Rattle.form.specs.Spell.{plain_form}
use Rattle.form.specs.Writes.{Writes, Converts, refused, told}
use Rattle.form.specs.Converted.{Converted}
use Rattle.form.proofs.Length.{plain_short}
use Rattle.form.proofs.Answered.{again_by, same_many, answered_by}

-- ---- twice the text is room enough

pub reader_eight : (rules : Rules) (text lent : List ℕ) {level : ℕ} {r : Answer} {left : List ℕ} → 2 * length text ≤ length lent →
    Converts rules text lent level r left → r.number ≡ 8 → Reading rules text rules.nodes level r none
reader_eight rules text lent h (refused x) e = x
reader_eight rules text lent h (told (accepted {l} {v} o s w a k) (no_room g)) e = absurd (omega (arith, h, g, plain_short rules.limits l text v a))
reader_eight rules text lent h (told x (written g)) e = absurd (omega (arith, e))

-- ---- other rules read what was written

module _ (old new : Rules) (depth : old.limits.depth ≤ new.limits.depth) (text : List ℕ) (level : ℕ) where
  back : {a : Answer} {v : Value} → Reading old text old.nodes level a (some v) → length (plain_form text v) ≤ new.text → Converted old new text level (plain_form text v)
  back (accepted {l} {v} o s w a k) h =
      let x = again_by old.limits new depth l text v a in
      let n = same_many old.limits new depth l text v a in
      let read : (space : ℕ) → length (table v) ≤ space → Reading new (plain_form text v) space level (answer 0 (length (plain_form text v)) (length (table v))) (some x.tree) =
      answered_by old.limits new depth l text v a level o h in
      record {
        tree = v;
        read = accepted o s w a k;
        other = x.tree;
        accepted =
            λ lent m.
            record {
              tree = some x.tree;
              reading = read (room new (length lent)) m;
              left_is = ap (λ (c : ℕ). table_words (table x.tree) ++ drop (node_words * c) lent) (sym n);
            };
        same_nodes = x.same_nodes;
        again =
            λ lent m g.
            let y = again_by old.limits old (omega arith) l text v a in
            subst (λ (p : List ℕ). Converts old (plain_form text v) lent level (answer 0 (length (plain_form text v)) (length p)) (p ++ drop (length p) lent)) y.again
            (told (answered_by old.limits old (omega arith) l text v a level o m old.nodes k) (written (subst (λ (p : List ℕ). length p ≤ length lent) (sym y.again) g)));
      }

  pub converted_back : {lent left : List ℕ} {r : Answer} → Converts old text lent level r left → r.number ≡ 0 → r.count ≤ new.text →
      Converted old new text level (take r.count left)
  converted_back (refused x) e h = absurd (refused_number old text x e)
  converted_back (told x (no_room g)) e h = absurd (omega (arith, e))
  converted_back {lent} (told {v = v} x (written g)) e h =
      subst (Converted old new text level) (sym (take-append_seam (plain_form text v) (drop (length (plain_form text v)) lent))) (back x h)

-- ---- what the writer gives

-- of a text that is accepted without the arrow, the converter gives what the writer does
pub as_written : (rules : Rules) (text words lent : List ℕ) {level : ℕ} {r : Answer} {left : List ℕ} → Writes rules text words lent level r left →
    r.number ≡ 0 → Converts (with_arrow rules) text lent level r left
as_written rules text words lent (refused (Tabled.refused x)) e = absurd (refused_number rules text x e)
as_written rules text words lent (refused (Tabled.other_table x n)) e = absurd (omega (arith, e))
as_written rules text words lent (told (Tabled.shown (accepted {l} o s w a k) h) f) e = told (accepted o s w (accepted_old rules.limits l text a) (omega (arith, k))) f
