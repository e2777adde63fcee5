-- The listing of an answer: 01, 'The node table'. Assumes nothing.
use Rattle.std.specs.Prelude.{cond, List, [], ◌∷◌, ◌++◌, ℕ, zero, suc, ◌+◌, ◌*◌, ◌/◌, ◌%◌, ltb}
use Rattle.rules.specs.Class.{byte_of}
use Rattle.grammar.specs.Nodes.{node_words, word_at}
use Rattle.reading.specs.declared.Answer.{Answer}

-- the byte of a digit, 0 to 9
abbrev pub digit : ℕ → ℕ
digit d = byte_of "0" + d

-- the decimal digits of n, or its last k if it has more
unfoldable pub digits : ℕ → ℕ → List ℕ
digits zero n = []
digits (suc k) n = cond (ltb n 10) (digit n ∷ []) (digits k (n / 10) ++ (digit (n % 10) ∷ []))

-- a number in decimal, without leading zeros: it has no more digits than n + 1
abbrev pub decimal : ℕ → List ℕ
decimal n = digits (suc n) n

abbrev pub space : ℕ
space = byte_of " "

abbrev pub newline : ℕ
newline = 0x0A

-- numbers, each behind one space, and the line's end
abbrev pub fields : List ℕ → List ℕ
fields [] = newline ∷ []
fields (n ∷ ns) = (space ∷ decimal n) ++ fields ns

-- a word of two letters and two numbers
abbrev pub head_line : ℕ → ℕ → ℕ → ℕ → List ℕ
head_line a b m n = a ∷ b ∷ fields (m ∷ n ∷ [])

-- a node's words, `word k` being the one at k
abbrev pub node_line : (ℕ → ℕ) → List ℕ
node_line word = decimal (word 0) ++ fields (word 1 ∷ word 2 ∷ word 3 ∷ word 4 ∷ word 5 ∷ word 6 ∷ [])

-- how long such a line is at most: each word has ten digits, and a space or the line's end behind it
abbrev pub longest_line : ℕ
longest_line = node_words * 11

-- a line for each of the table's first n nodes
unfoldable pub node_lines : List ℕ → ℕ → List ℕ
node_lines t zero = []
node_lines t (suc n) = node_lines t n ++ node_line (λ k. word_at t n k)

-- by the answer's number: `ok` with level and count, and the nodes; or `no` with number and place
abbrev pub listed : ℕ → ℕ → Answer → List ℕ → List ℕ
listed zero level a t = head_line (byte_of "o") (byte_of "k") level a.count ++ node_lines t a.count
listed (suc n) level a t = head_line (byte_of "n") (byte_of "o") (suc n) a.place

abbrev pub listing : ℕ → Answer → List ℕ → List ℕ
listing level a t = listed a.number level a t
