-- The texts with bad escapes read as the table says, by one computed test; the Text call, the writers, the checker and the converter.
-- Assumes nothing.
use mathlib.Core.Path.{◌≡◌, refl, subst}
use mathlib.Core.Logic.{inl, inr}
use mathlib.Core.Bool.{Bool, true, ◌&&◌}
use mathlib.Core.List.{◌∷◌, ◌++◌}
use mathlib.Core.Option.{none}
use Prim.Native.Nat.{ℕ}
use Prim.Native.String.{String}
use native.Mathlib.Omega.{arith}
use borrow.Author.Tests.{eqb-true}
use lib.Dec.{eqb}
use lib.ListN.{length}
use Rattle.rules.specs.Class.{has, codes}
use Rattle.rules.proofs.Bools.{and_left, and_right}
use Rattle.decisions.proofs.Codes.{bad_code, bad_code_lem}
use Rattle.decisions.proofs.Quoted.{bad_quoted, bad_quoted_lem}
use Rattle.decisions.proofs.First.{first_bad, first_bad_lem}
use Rattle.reading.specs.Sizes.{base, old_rules}
use Rattle.reading.specs.Answers.{answer, Reading}
use Rattle.reading.specs.Tabled as Tabled
use Rattle.values.specs.Text.{text_literal, text_call}
use Rattle.files.specs.Writes as Files
use Rattle.files.proofs.Determined.{no_tree}
use Rattle.form.specs.Writes.{refused}
use Rattle.examples.specs.Contents.{RefusesAt}
use Rattle.examples.specs.Escapes.{out_of_range, in_member, Escapes}
use Rattle.examples.proofs.Starred.{all_agree, all_hold}
use Rattle.examples.proofs.Contents.{whole, five, nine}
use Rattle.examples.proofs.Files.{fails, other}

tested : all_agree base out_of_range ≡ true
unfolding has
tested = refl

-- ---- the Text call

-- a whole literal with a bad escape, the first of them at the place
abbrev bad_at : String → ℕ → Bool
bad_at text place = bad_quoted (codes text) 0 (length (codes text)) && eqb (first_bad (codes text) 0 (length (codes text))) place

escape_at : (text : String) (place : ℕ) → whole text_literal (codes text) ≡ true → bad_at text place ≡ true → RefusesAt text_call text 5 place
escape_at text place w e =
    let bytes = codes text in
    let bad = bad_quoted bytes 0 (length bytes) in
    let there = eqb (first_bad bytes 0 (length bytes)) place in
    subst (RefusesAt text_call text 5) (eqb-true (first_bad bytes 0 (length bytes)) place (and_right bad there e))
    (five text_call text w (inl (first_bad_lem bytes ((bad_quoted_lem bytes 0 (length bytes)).true_holds (and_left bad there e)))))

code_at : (text : String) → whole text_literal (codes text) ≡ true → bad_code (codes text) 0 (length (codes text)) ≡ true → RefusesAt text_call text 5 0
code_at text w e = five text_call text w (inr (refl, (bad_code_lem (codes text) 0 (length (codes text))).true_holds e))

-- ---- what hands the reader's refusal on

-- with any room, by today's rules and by the old ones
today : {n : ℕ} → Reading base in_member n 2 (answer 5 5 0) none
unfolding has
today = fails base (omega arith) in_member refl 5 5 refl

before : {n : ℕ} → Reading old_rules in_member n 2 (answer 5 5 0) none
unfolding has
before = fails old_rules (omega arith) in_member refl 5 5 refl

pub escapes : Escapes
unfolding has
escapes =
    record {
      listed = all_hold base (omega arith) out_of_range tested;
      alone = escape_at "\"\\\\<0cxD800>\"" 2 refl refl;
      further = escape_at "\"a\" \"\\x\\<0cxD800>\"" 7 refl refl;
      first_of_two = escape_at "\"a\" \"\\b\\<0c65>\\<0cxD800>\\<0cxDFFF>\"" 14 refl refl;
      of_two_segments = escape_at "\"\\\\<0cxD800>\" \"\\\\<0cxDFFF>\"" 2 refl refl;
      not_escaped = escape_at "\"a\\<0cxD800>\" \"\\\\<0cxDFFF>\"" 16 refl refl;
      bare = code_at "0cxD800" refl refl;
      broken = nine text_call "\"\\\\<0cxD800>\" \"\\\\h\"" refl refl;
      not_stored = λ lent. Files.refused today;
      no_file = λ rest. other old_rules in_member (codes "FNT" ++ (0x00 ∷ 0x01 ∷ rest)) refl (omega arith) refl (λ s. no_tree old_rules in_member before s.read);
      no_plain_form = λ table lent. refused (Tabled.refused today);
      not_converted = λ lent. refused before;
    }
