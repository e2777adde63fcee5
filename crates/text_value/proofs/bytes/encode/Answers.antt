-- `text_value::bytes::encode` meets its contract. Assumes nothing.
use Rattle.values.proofs.Encodes.{encode_one, encode_two, encode_three, encode_four}
use Rattle.buffer.proofs.Appending.{appends_then, appends_same}
use Rattle.text_value.proofs.bytes.encode.Goals as goal

pub returns-then-code-lt128 : goal.returns-then-code-lt128
returns-then-code-lt128 c = appends_same (encode_one _ c.if-code-lt128.true) c.put.ensures

pub returns-then-code-lt2048 : goal.returns-then-code-lt2048
returns-then-code-lt2048 c = appends_same (encode_two _ c.if-code-lt128.false c.if-code-lt2048.true) (appends_then c.put-then-code-lt2048.ensures c.tail.ensures)

pub returns-then-code-lt65536 : goal.returns-then-code-lt65536
returns-then-code-lt65536 c = appends_same (encode_three _ c.if-code-lt2048.false c.if-code-lt65536.true) (appends_then c.put-then-code-lt65536.ensures (appends_then c.tail-then-code-lt65536.ensures c.tail-then-code-lt65536-2.ensures))

pub returns : goal.returns
returns c = appends_same (encode_four _ c.if-code-lt65536.false) (appends_then c.put-2.ensures (appends_then c.tail-2.ensures (appends_then c.tail-3.ensures c.tail-4.ensures)))
