-- The sizes of 01, as parameters of the definitions: what a text is judged by, and of it what a token is judged by; and
-- 02, request 6, the rules of today beside 'the old rules'. Assumes nothing.
use Rattle.std.specs.Prelude.{true, false, ℕ, ◌/◌, min}
use Rattle.grammar.specs.Nodes.{node_words}
use Rattle.reading.specs.declared.Limits.{Limits}
use Rattle.reading.specs.declared.Rules.{Rules}

-- 01: 'Open brackets at once: at most 32 (each of `(` `{` `[` counts, groups too)'; 02, request 6: the backward arrow
-- is retired
abbrev pub base_limits : Limits
base_limits = record { depth = 32; arrow = false }

-- 01: 'Text: 0 to 32,768 bytes'; 'the smaller of 1,024 and' what the table holds
abbrev pub base : Rules
base = record { text = 32768; nodes = 1024; limits = base_limits }

-- the same rules, but that the backward arrow may be read
abbrev pub with_arrow : Rules → Rules
with_arrow r = record {
  text = r.text;
  nodes = r.nodes;
  limits = record { depth = r.limits.depth; arrow = true };
}

-- 02, request 6: 'the old rules'
abbrev pub old_rules : Rules
old_rules = with_arrow base

-- 01, 'Room in the table'; 02, request 7: 'the smaller of 1,024 and words divided by 7, rounded down'
abbrev pub room : Rules → ℕ → ℕ
room r n = min r.nodes (n / node_words)

-- not of 01: the longest text of rules that the code can follow. Up to it every place and every count of nodes fits a
-- word of the table, and no sum of the code wraps; no answer depends on it
abbrev pub widest : ℕ
widest = 1048576
