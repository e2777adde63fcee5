-- The answers of the writer and the checker, by readings that compute. Assumes nothing.
use mathlib.Core.Path.{◌≡◌, refl, ap, subst}
use mathlib.Core.Logic.{inl, inr}
use mathlib.Core.Bool.{true, false}
use mathlib.Core.List.{List, [], ◌∷◌, ◌++◌}
use mathlib.Core.Option.{none, some}
use Prim.Native.Nat.{ℕ, ◌≤◌}
use native.Mathlib.Omega.{arith}
use lib.ListN.{length, get_or, take, drop}
use Rattle.rules.specs.Class.{has, codes}
use Rattle.grammar.specs.Tokens.{Span, integer, word}
use Rattle.grammar.specs.Tree.{Value}
use Rattle.grammar.specs.Tree as Tree
use Rattle.grammar.specs.Level.{level2}
use Rattle.grammar.specs.Nodes.{table}
use Rattle.reading.specs.declared.Rules.{Rules}
use Rattle.reading.specs.Sizes.{base, old_rules}
use Rattle.reading.specs.Answers as Answers
use Rattle.reading.specs.Answers.{answer, second, faulty}
use Rattle.reading.proofs.Arrow.{reading_old}
use Rattle.files.specs.File.{number, mark, version}
use Rattle.files.specs.Writes as Writes
use Rattle.files.specs.Writes.{Read}
use Rattle.files.specs.Checks.{Unmarked, Stored, Checks, refused, accepted}
use Rattle.files.proofs.Bytes.{file_length}
use Rattle.files.proofs.Determined.{no_tree, one_stored}
use Rattle.examples.specs.Files.{pair, Files}
use Rattle.examples.proofs.Readable.{readable, is_short, is_formed}
use Rattle.examples.proofs.Reading.{Sound, holds, Right, verdict, verdict_is}
use Rattle.examples.proofs.Reading as Reading

-- ---- what the reader answers

module _ (rules : Rules) (long : base.text ≤ rules.text) (text : List ℕ) (e : readable text ≡ true) where
  short : length text ≤ rules.text
  short = omega (arith, long, is_short text e)

  pub reads : (v : Value) → verdict text rules.limits level2 ≡ some (holds v) → length (table v) ≤ rules.nodes → Read rules text (answer 0 (length text) (length (table v))) (some v)
  reads v is h = Answers.accepted second short (is_formed text e) (subst (Sound (Right text rules.limits level2)) is (verdict_is text rules.limits level2)) h

  pub fails : {room : ℕ} (n p : ℕ) → verdict text rules.limits level2 ≡ some (Reading.refused n p) → Answers.Reading rules text room 2 (answer n p 0) none
  fails n p is = faulty second short (is_formed text e) (subst (Sound (Right text rules.limits level2)) is (verdict_is text rules.limits level2))

abbrev span : ℕ → ℕ → Span
span i j = record { first = i; end = j }

-- a Pair of two words of one byte
abbrev tree : Value
tree = Tree.plain (Tree.pair (span 0 1) (Tree.text word (span 1 2)) (span 2 3) (Tree.plain (Tree.text word (span 3 4))) (span 4 5))

x_y_read : Read base (codes "(x:y)") (answer 0 5 3) (some tree)
unfolding has
x_y_read = reads base (omega arith) (codes "(x:y)") refl tree refl (omega arith)

abbrev from_to : Value
from_to = Tree.plain (Tree.interval (span 0 1) (Tree.between (Tree.plain (Tree.literal (integer false) (span 1 2))) Tree.two_dots (span 2 4) (Tree.plain (Tree.literal (integer false) (span 4 6)))) (span 6 7))

from_to_read : Read base (codes "[1..10]") (answer 0 7 3) (some from_to)
unfolding has
from_to_read = reads base (omega arith) (codes "[1..10]") refl from_to refl (omega arith)

a_b_read : Read base (codes "(a:b)") (answer 0 5 3) (some tree)
unfolding has
a_b_read = reads base (omega arith) (codes "(a:b)") refl tree refl (omega arith)

not_ended : Read base (codes "(x") (answer 6 2 0) none
unfolding has
not_ended = fails base (omega arith) (codes "(x") refl 6 2 refl

opened : Read base (codes "(") (answer 6 1 0) none
unfolding has
opened = fails base (omega arith) (codes "(") refl 6 1 refl

-- ---- the checker

-- the texts have no arrow, so the old rules read them alike
x_y_before : Read old_rules (codes "(x:y)") (answer 0 5 3) (some tree)
x_y_before = reading_old base (codes "(x:y)") x_y_read (λ e. omega (arith, e))

a_b_before : Read old_rules (codes "(a:b)") (answer 0 5 3) (some tree)
a_b_before = reading_old base (codes "(a:b)") a_b_read (λ e. omega (arith, e))

opened_before : Read old_rules (codes "(") (answer 6 1 0) none
opened_before = reading_old base (codes "(") opened (λ e. omega (arith, e))

pair_stored : Stored old_rules (codes "(x:y)") pair
pair_stored = record { read_as = answer 0 5 3; tree = tree; read = x_y_before; bytes_are = refl }

marked : (bytes : List ℕ) → take 3 bytes ≡ mark → 5 ≤ length bytes → Unmarked bytes → ⊥
marked bytes e h (inl n) = n e
marked bytes e h (inr g) = omega (arith, h, g)

-- what has the mark and the version and is not the file
pub other : (rules : Rules) (text bytes : List ℕ) → take 3 bytes ≡ mark → 5 ≤ length bytes → take 2 (drop 3 bytes) ≡ number 2 version → (Stored rules text bytes → ⊥) →
    Checks rules text bytes (answer 14 0 0)
other rules text bytes e h f n = refused (inr (marked bytes e h, inr ((λ x. x f), inl (refl, n))))

pub files : Files
files =
    record {
      written = λ lent h. Writes.written x_y_read h;
      no_room = λ lent h. Writes.no_room x_y_read h;
      level_two = λ lent h. Writes.no_room from_to_read h;
      passed_on = λ lent. Writes.refused not_ended;
      stored = accepted pair_stored;
      same_nodes = accepted (record { read_as = answer 0 5 3; tree = tree; read = a_b_before; bytes_are = refl });
      -- the text's length stands in bytes 7 and 8
      longer_text = other old_rules (codes "(x:y )") pair refl (omega arith) refl (λ s. omega (arith, ap (λ (l : List ℕ). get_or l 8 0) s.bytes_are));
      byte_behind = λ b. other old_rules (codes "(x:y)") (pair ++ (b ∷ [])) refl (omega arith) refl (λ s. omega (arith, ap length (one_stored old_rules (codes "(x:y)") s pair_stored)));
      byte_changed =
          λ b n.
          other old_rules (codes "(x:y)") (take 44 pair ++ (b ∷ [])) refl (omega arith) refl
          (λ s. n (ap (λ (l : List ℕ). get_or l 44 0) (one_stored old_rules (codes "(x:y)") s pair_stored)));
      text_refused = λ rest. other old_rules (codes "(") (codes "FNT" ++ (0x00 ∷ 0x01 ∷ rest)) refl (omega arith) refl (λ s. no_tree old_rules (codes "(") opened_before s.read);
      four_bytes = λ rules text. refused (inl (refl, inr (omega arith)));
      other_mark = λ rules text. refused (inl (refl, inl (λ e. omega (arith, ap (λ (l : List ℕ). get_or l 2 0) e))));
      other_version =
          λ rules text. refused (inr (marked (codes "FNT" ++ (0x00 ∷ 0x02 ∷ [])) refl (omega arith), inl (refl, λ e. omega (arith, ap (λ (l : List ℕ). get_or l 1 0) e))));
      version_alone =
          λ rules text.
          other rules text (codes "FNT" ++ (0x00 ∷ 0x01 ∷ [])) refl (omega arith) refl
          (λ s. omega (arith, ap length s.bytes_are, file_length text s.tree));
    }
