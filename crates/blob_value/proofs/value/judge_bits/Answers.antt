-- `blob_value::value::judge_bits` meets its contract. Assumes nothing.
use native.Mathlib.Omega.{arith}
use Rattle.reading.specs.Sizes.{base}
use Rattle.values.specs.Bits.{bits_call}
use Rattle.piece.specs.Fits.{not_the_literal}
use Rattle.piece.proofs.Refused.{is_whole, not_whole, judged_unsound, unfit_bytes}
use Rattle.blob_value.specs.declared.Kind.{Kind}
use Rattle.blob_value.specs.Calls.{Marked}
use Rattle.blob_value.proofs.Judges.{bits_long, binary_bits, octal_bits, hexadecimal_bits}
use Rattle.blob_value.proofs.value.judge_bits.Goals as goal

pub returns-in_err-sound : goal.returns-in_err-sound
returns-in_err-sound c = judged_unsound bits_call (Marked Kind.Bits c.args.piece.now) base _ c.in_err-sound.ensures c.from_residual.ensures.1

pub returns-then-ne : goal.returns-then-ne
returns-then-ne c = let s = c.in_ok-sound.ensures in unfit_bytes s.0 s.1 (not_the_literal (not_whole _ c.bits.ensures c.ne.ensures c.if-ne.true))

pub bounds-piece-2 : goal.bounds-piece-2
bounds-piece-2 c = bits_long _ (is_whole _ c.bits.ensures c.ne.ensures c.if-ne.false)

pub returns-in-98 : goal.returns-in-98
returns-in-98 c = let s = c.in_ok-sound.ensures in (binary_bits _ (is_whole _ c.bits.ensures c.ne.ensures c.if-ne.false) c.in-98.is, s.0, s.1)

pub returns-in-111 : goal.returns-in-111
returns-in-111 c = let s = c.in_ok-sound.ensures in (octal_bits _ (is_whole _ c.bits.ensures c.ne.ensures c.if-ne.false) c.in-111.is, s.0, s.1)

pub returns-in_default : goal.returns-in_default
returns-in_default c =
    let s = c.in_ok-sound.ensures in
    (hexadecimal_bits _ (is_whole _ c.bits.ensures c.ne.ensures c.if-ne.false) (λ e. omega arith) (λ e. omega arith), s.0, s.1)
