-- A text laid out anew, by the answers of the calls: the reader's tables, the plain forms and the values. Assumes nothing.
use mathlib.Core.Path.{◌≡◌, refl, sym, ap, subst, ◌∙◌}
use mathlib.Core.List.{List, map}
use mathlib.Core.Option.{some}
use Prim.Native.Nat.{ℕ, ◌≤◌, ◌<◌}
use native.Mathlib.Omega.{arith}
use lib.ListN.{length, get_or, take, drop}
use lib.Seq.{take-append_seam}
use Rattle.lexicon.specs.Utf8.{WellFormed}
use Rattle.grammar.specs.Tree.{Value}
use Rattle.grammar.specs.Level.{Level}
use Rattle.grammar.specs.Nodes.{Node, words, node_words, word_at, table, kind_word, parent_word, role_word, detail_word, skip_word}
use Rattle.grammar.proofs.NodeLaws.{node_at, as_many, same_at}
use Rattle.reading.specs.declared.Answer.{Answer}
use Rattle.reading.specs.declared.Rules.{Rules}
use Rattle.reading.specs.Sizes.{room}
use Rattle.reading.specs.Answers.{LevelOf, answer, Accepted, Reading, Answers, accepted}
use Rattle.reading.specs.Tabled.{Holds, shown, other_table}
use Rattle.reading.specs.Tabled as Tabled
use Rattle.reading.specs.Buffer.{no_room, written}
use Rattle.reading.proofs.Numbers.{refused_number}
use Rattle.reading.proofs.Derived.{accepted_derived}
use Rattle.reading.proofs.Unique.{one_level, one_tree_lem, one_reading}
use Rattle.reading.proofs.Tabled.{held_word}
use Rattle.reading.proofs.Found.{found}
use Rattle.form.specs.Spell.{plain_form}
use Rattle.form.specs.Writes as Writes
use Rattle.form.specs.Writes.{Writes, told}
use Rattle.layout.specs.Relaid.{Relaid}
use Rattle.layout.specs.Kept.{unplaced, SameWords}
use Rattle.layout.proofs.Itself.{relaid_itself}
use Rattle.layout.proofs.Laid.{kept}

-- ---- an accepted reading

-- the derivation v, at the level, of a text that is UTF-8 and not too long
pub record Read (rules : Rules) (text : List ℕ) (level : ℕ) (v : Value) : Type 0 where
  pub of : Level
  pub level_is : LevelOf level of
  pub short : length text ≤ rules.text
  pub formed : WellFormed text
  pub accepts : Accepted rules.limits text of v

pub read : (rules : Rules) (text : List ℕ) {space level : ℕ} {r : Answer} {v : Value} → Reading rules text space level r (some v) → Read rules text level v
read rules text (accepted {l} o h w a k) = record { of = l; level_is = o; short = h; formed = w; accepts = a }

pub itself : (rules : Rules) (text lent left : List ℕ) {level : ℕ} {r : Answer} → Answers rules text lent level r left → r.number ≡ 0 → Relaid text text
itself rules text lent left {level} a e =
    let f = found rules text lent left level a e in
    let y = read rules text f.read in
    relaid_itself rules.limits y.of text f.tree (accepted_derived rules.limits text y.accepts)

-- ---- the words of two tables

held_alike : (t u : List ℕ) (v w : Value) → Holds t v → Holds u w → map unplaced (table v) ≡ map unplaced (table w) → SameWords t u (length (table v))
held_alike t u v w h g e =
    record {
      kinds = at kind_word (omega arith) (λ i n. refl);
      parents = at parent_word (omega arith) (λ i n. refl);
      roles = at role_word (omega arith) (λ i n. refl);
      details = at detail_word (omega arith) (λ i n. refl);
      skip_words = at skip_word (omega arith) (λ i n. refl);
    }
  where
    -- a word that tells no place
    at : (k : ℕ) → k < node_words → ((i : ℕ) (n : Node) → get_or (words i n) k 0 ≡ get_or (words i (unplaced n)) k 0) → (i : ℕ) → i < length (table v) → word_at t i k ≡ word_at u i k
    at k l f i m =
        held_word t v h i k m l ∙ f i (node_at (table v) i) ∙ ap (λ (n : Node). get_or (words i n) k 0) (same_at unplaced (table v) (table w) e i)
        ∙ sym (f i (node_at (table w) i)) ∙ sym (held_word u w g i k (omega (arith, m, as_many unplaced (table v) (table w) e)) l)

-- ---- the reader

module _ (rules : Rules) {text other : List ℕ} (x : Relaid text other) {level : ℕ} where
  -- the two derivations, by the readings' own
  kept_tree : {v w : Value} → Read rules text level v → Read rules other level w → map unplaced (table v) ≡ map unplaced (table w)
  kept_tree {v = v} {w = w} y z =
      let k = kept x rules.limits y.of v y.accepts in
      sym k.same_nodes ∙ ap (λ (u : Value). map unplaced (table u)) (one_tree_lem rules.limits other (one_level y.level_is z.level_is) k.accepted z.accepts)

  pub read_again : (lent space left filled : List ℕ) {r s : Answer} → WellFormed other → length other ≤ rules.text → length space ≡ length lent →
      Answers rules text lent level r left → r.number ≡ 0 → Answers rules other space level s filled →
      (s ≡ answer 0 (length other) r.count) × SameWords left filled r.count
  read_again lent space left filled {r} {s} w h e a z b =
      let f = found rules text lent left level a z in
      let y = read rules text f.read in
      let k = kept x rules.limits y.of f.tree y.accepts in
      let n : length (table k.tree) ≡ r.count = as_many unplaced (table k.tree) (table f.tree) k.same_nodes ∙ sym f.count_is in
      let fits : length (table k.tree) ≤ room rules (length space) = subst (λ (m : ℕ). length (table k.tree) ≤ room rules m) (sym e) (omega (arith, n, f.few)) in
      let there : Reading rules other (room rules (length space)) level (answer 0 (length other) (length (table k.tree))) (some k.tree) =
      accepted y.level_is h w k.accepted fits in
      let o : s ≡ answer 0 (length other) (length (table k.tree)) = (one_reading rules other b.reading there).0 in
      let g = found rules other space filled level b (ap (λ (t : Answer). t.number) o) in (
        o ∙ ap (answer 0 (length other)) n,
        subst (SameWords left filled) (sym f.count_is) (held_alike left filled f.tree g.tree f.holds g.holds (kept_tree y (read rules other g.read))),
      )

-- ---- the plain form

-- a call that is accepted wrote the plain form of the text's derivation
record Written (rules : Rules) (text : List ℕ) (level : ℕ) (out : List ℕ) : Type 0 where
  tree : Value
  reads : Read rules text level tree
  out_is : out ≡ plain_form text tree

was_written : (rules : Rules) (text words : List ℕ) {lent left : List ℕ} {level : ℕ} {r : Answer} → Writes rules text words lent level r left → r.number ≡ 0 →
    Written rules text level (take r.count left)
was_written rules text words (Writes.refused (Tabled.refused x)) e = absurd (refused_number rules text x e)
was_written rules text words (Writes.refused (other_table x n)) e = absurd (omega (arith, e))
was_written rules text words (told x (no_room g)) e = absurd (omega (arith, e))
was_written rules text words {lent} (told {v = v} (shown x h) (written g)) e =
    record { tree = v; reads = read rules text x; out_is = take-append_seam (plain_form text v) (drop (length (plain_form text v)) lent) }

module _ (rules : Rules) {text other : List ℕ} (x : Relaid text other) {level : ℕ} where
  pub same_plain_form : (table own : List ℕ) {lent buffer left filled : List ℕ} {r s : Answer} → Writes rules text table lent level r left → r.number ≡ 0 →
      Writes rules other own buffer level s filled → s.number ≡ 0 → take r.count left ≡ take s.count filled
  same_plain_form table own a e b f =
      let y = was_written rules text table a e in
      let z = was_written rules other own b f in
      let k = kept x rules.limits y.reads.of y.tree y.reads.accepts in
      y.out_is ∙ sym k.same_plain_form
      ∙ ap (plain_form other) (one_tree_lem rules.limits other (one_level y.reads.level_is z.reads.level_is) k.accepted z.reads.accepts) ∙ sym z.out_is
