-- `blob_value::value::judge_blob` meets its contract. Assumes nothing.
use native.Mathlib.Omega.{arith}
use Rattle.lexicon.proofs.Answers.{shorter}
use Rattle.reading.specs.Sizes.{base}
use Rattle.values.specs.Blob.{blob_call}
use Rattle.piece.specs.Fits.{not_the_literal}
use Rattle.piece.proofs.Refused.{judged_unsound, unfit_bytes}
use Rattle.blob_value.specs.declared.Kind.{Kind}
use Rattle.blob_value.specs.Calls.{Marked}
use Rattle.blob_value.proofs.Judges.{blob_within, blob_bad, binary_blob, hexadecimal_blob, base64_blob}
use Rattle.blob_value.proofs.value.judge_blob.Goals as goal

pub returns-in_err-sound : goal.returns-in_err-sound
returns-in_err-sound c = judged_unsound blob_call (Marked Kind.Blob c.args.piece.now) base _ c.in_err-sound.ensures c.from_residual.ensures.1

pub returns-in_default : goal.returns-in_default
returns-in_default c = let s = c.in_ok-sound.ensures in unfit_bytes s.0 s.1 (not_the_literal (λ t. c.in_default.ensures.none t))

pub returns-then-end-piece : goal.returns-then-end-piece
returns-then-end-piece c = let s = c.in_ok-sound.ensures in unfit_bytes s.0 s.1 (not_the_literal (shorter c.in-Some.ensures.0 c.if-end-piece.true))

pub returns-then-bad : goal.returns-then-bad
returns-then-bad c = let s = c.in_ok-sound.ensures in unfit_bytes s.0 s.1 (blob_bad _ c.in-Some.ensures c.if-end-piece.false c.if-bad.true)

pub bounds-piece-2 : goal.bounds-piece-2
bounds-piece-2 c = blob_within _ c.in-Some.ensures c.if-end-piece.false

pub returns-in-98 : goal.returns-in-98
returns-in-98 c = let s = c.in_ok-sound.ensures in (binary_blob _ c.in-Some.ensures c.if-end-piece.false c.if-bad.false c.in-98.is, s.0, s.1)

pub returns-in-120 : goal.returns-in-120
returns-in-120 c = let s = c.in_ok-sound.ensures in (hexadecimal_blob _ c.in-Some.ensures c.if-end-piece.false c.if-bad.false c.in-120.is, s.0, s.1)

pub returns-in_default-piece : goal.returns-in_default-piece
returns-in_default-piece c =
    let s = c.in_ok-sound.ensures in
    (base64_blob _ c.in-Some.ensures c.if-end-piece.false c.if-bad.false (λ e. omega arith) (λ e. omega arith), s.0, s.1)
