-- What is written of a text with its table is read back the same; 14 says that a reading would change the table. Assumes nothing.
use mathlib.Core.Path.{◌≡◌, refl, sym, ap, subst, ◌∙◌}
use mathlib.Core.List.{List, ◌++◌}
use mathlib.Core.Option.{Option, none, some, none-ne-some, some-injective}
use Prim.Native.Nat.{ℕ, ◌*◌, ◌≤◌}
use native.Mathlib.Omega.{arith}
use lib.ListN.{length, take, drop}
use lib.Seq.{take-append_seam}
use Rattle.grammar.specs.Tree.{Value}
use Rattle.grammar.specs.Nodes.{table, table_words, node_words}
use Rattle.reading.specs.declared.Answer.{Answer}
use Rattle.reading.specs.declared.Rules.{Rules}
use Rattle.reading.specs.Sizes.{room}
use Rattle.reading.specs.Answers.{answer, Reading, nodes_of, accepted}
use Rattle.reading.specs.Tabled.{Holds, Tabled, refused, other_table, shown}
use Rattle.reading.specs.Buffer.{no_room, written}
use Rattle.reading.proofs.Numbers.{refused_number}
use Rattle.reading.proofs.Unique.{one_reading}
use Rattle.reading.proofs.Tabled.{holds_unchanged, unchanged_holds}
use Rattle.form.specs.Spell.{plain_form}
use Rattle.form.specs.Writes as Writes
use Rattle.form.specs.Writes.{Writes, told}
use Rattle.form.proofs.Length.{plain_short}
use Rattle.form.proofs.Answered.{again, again_count, answered}
use Rattle.demands.specs.Requests.{ReadsBack}

module _ (rules : Rules) (text words : List ℕ) (level : ℕ) where
  -- ---- 14

  -- the table is as it was just where the judgement is the reading's own
  pub by_reading : {a r : Answer} {t : Option Value} (s : Option Value) (left : List ℕ) → Reading rules text (room rules (length words)) level a s →
      left ≡ table_words (nodes_of s) ++ drop (node_words * length (nodes_of s)) words → Tabled rules text words level r t →
      (left ≡ words → r ≡ a) × ((left ≡ words → ⊥) → r ≡ answer 14 0 0)
  by_reading none left x e (refused y) = ((λ z. (one_reading rules text y x).0), λ n. absurd (n e))
  by_reading none left x e (other_table {v = v} y n) = absurd (none-ne-some v (one_reading rules text x y).1)
  by_reading none left x e (shown {v = v} y h) = absurd (none-ne-some v (one_reading rules text x y).1)
  by_reading (some v) left x e (refused y) = absurd (none-ne-some v (one_reading rules text y x).1)
  by_reading (some v) left x e (other_table {v = w} y n) =
      let same = some-injective v w (one_reading rules text x y).1 in
      ((λ z. absurd (n (subst (Holds words) same (unchanged_holds words v (sym e ∙ z))))), λ m. refl)
  by_reading (some v) left x e (shown {v = w} y h) =
      let same = some-injective w v (one_reading rules text y x).1 in
      ((λ z. (one_reading rules text y x).0), λ n. absurd (n (e ∙ holds_unchanged words v (subst (Holds words) same h))))

  -- ---- twice the text is room enough

  pub reader_own : {lent left : List ℕ} {r : Answer} → 2 * length text ≤ length lent → Writes rules text words lent level r left → r.number ≡ 8 →
      Reading rules text (room rules (length words)) level r none
  reader_own h (Writes.refused (refused x)) e = x
  reader_own h (Writes.refused (other_table x n)) e = absurd (omega (arith, e))
  reader_own h (told (shown (accepted {l} {v} o s w a k) y) (no_room g)) e = absurd (omega (arith, h, g, plain_short rules.limits l text v a))
  reader_own h (told x (written g)) e = absurd (omega (arith, e))

  -- ---- what was written

  -- of a text that is accepted, with a table that shows it
  back : {a : Answer} {v : Value} → Tabled rules text words level a (some v) → length (plain_form text v) ≤ rules.text → ReadsBack rules text words level (plain_form text v)
  back (shown (accepted {l} {v} o s w a k) y) h =
      let x = again rules l text v a in
      let n = again_count rules l text v a in
      let read : (space : ℕ) → length (table v) ≤ space → Reading rules (plain_form text v) space level (answer 0 (length (plain_form text v)) (length (table v))) (some x.tree) =
      answered rules l text v a level o h in
      record {
        tree = v;
        shown = shown (accepted o s w a k) y;
        other = x.tree;
        accepted =
            λ lent m.
            record {
              tree = some x.tree;
              reading = read (room rules (length lent)) m;
              left_is = ap (λ (c : ℕ). table_words (table x.tree) ++ drop (node_words * c) lent) (sym n);
            };
        same_nodes = x.same_nodes;
        again =
            λ shows lent m holds g.
            subst (λ (p : List ℕ). Writes rules (plain_form text v) shows lent level (answer 0 (length (plain_form text v)) (length p)) (p ++ drop (length p) lent)) x.again
            (told (shown (read (room rules (length shows)) m) holds) (written (subst (λ (p : List ℕ). length p ≤ length lent) (sym x.again) g)));
      }

  pub written_back : {lent left : List ℕ} {r : Answer} → Writes rules text words lent level r left → r.number ≡ 0 → r.count ≤ rules.text →
      ReadsBack rules text words level (take r.count left)
  written_back (Writes.refused (refused x)) e h = absurd (refused_number rules text x e)
  written_back (Writes.refused (other_table x n)) e h = absurd (omega (arith, e))
  written_back (told x (no_room g)) e h = absurd (omega (arith, e))
  written_back {lent} (told {v = v} x (written g)) e h =
      subst (ReadsBack rules text words level) (sym (take-append_seam (plain_form text v) (drop (length (plain_form text v)) lent))) (back x h)
