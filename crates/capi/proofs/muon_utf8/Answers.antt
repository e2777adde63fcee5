-- `capi::muon_utf8` meets its contract, by the variant of the test's answer. Assumes nothing.
use Rattle.values.proofs.Utf8.{formed_answer, bad_answer}
use Rattle.capi.proofs.muon_utf8.Goals as goal

pub returns-in-Ok : goal.returns-in-Ok
returns-in-Ok c = formed_answer _ c.in-Ok.is c.tested-tested.ensures

pub returns-in-Err : goal.returns-in-Err
returns-in-Err c = rw c.in-Err.field-0-is (bad_answer _ c.in-Err.is c.tested-tested.ensures)
