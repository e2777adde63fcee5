-- The stored file: 02, request 4, 'The file: mark `FNT`, 16-bit version 1, node count, text length, then six words a
-- node, every number 16 bits, high byte first.' Assumes nothing.
use Rattle.std.specs.Prelude.{List, [], ◌∷◌, ◌++◌, ℕ, zero, suc, ◌/◌, ◌%◌, ◌^◌, length}
use Rattle.rules.specs.Class.{byte_of}
use Rattle.grammar.specs.Tree.{Value}
use Rattle.grammar.specs.Nodes.{Node, kind_number_of, role_number, table}

-- a number in so many bytes, high byte first
abbrev pub number : ℕ → ℕ → List ℕ
number zero n = []
number (suc w) n = n / 256 ^ w % 256 ∷ number w n

-- numbers one behind the other
abbrev pub numbers : ℕ → List ℕ → List ℕ
numbers w [] = []
numbers w (n ∷ ns) = number w n ++ numbers w ns

abbrev pub mark : List ℕ
mark = byte_of "F" ∷ byte_of "N" ∷ byte_of "T" ∷ []

abbrev pub version : ℕ
version = 1

-- six words a node, in the order of 01: kind, first byte, byte after the last, parent's index, role, detail. They are
-- named here and not taken from the table's words, so that a word that is added there does not change the file
abbrev pub six_words : List Node → List ℕ
six_words [] = []
six_words (n ∷ ns) =
    kind_number_of n.kind ∷ n.at.first ∷ n.at.end ∷ n.parent ∷ role_number n.role ∷ n.detail ∷ six_words ns

-- the numbers behind the mark, of a text with this derivation
abbrev pub row : List ℕ → Value → List ℕ
row text v = version ∷ length (table v) ∷ length text ∷ six_words (table v)

-- 16 bits are two bytes
abbrev pub file : List ℕ → Value → List ℕ
file text v = mark ++ numbers 2 (row text v)
