-- How long a file is, and where each of its numbers stands. Assumes nothing.
use mathlib.Core.Path.{◌≡◌, refl, sym, ap, ◌∙◌}
use mathlib.Core.List.{List, [], ◌∷◌}
use Prim.Native.Nat.{ℕ, zero, suc, ◌+◌, ◌*◌, ◌/◌, ◌%◌, ◌<◌}
use native.Mathlib.Omega.{arith}
use lib.ListN.{length, get_or, take, drop}
use lib.Seq.{get_or-take, get_or-drop}
use Rattle.grammar.specs.Tree.{Value}
use Rattle.grammar.specs.Nodes.{Node, table, node_words, word_at, words_from, table_words}
use Rattle.files.specs.File.{number, numbers, six_words, file}

numbers_length : (ns : List ℕ) → length (numbers 2 ns) ≡ 2 * length ns
numbers_length [] = refl
numbers_length (n ∷ ns) = omega (arith, numbers_length ns)

pub six_length : (ns : List Node) → length (six_words ns) ≡ 6 * length ns
six_length [] = refl
six_length (n ∷ ns) = omega (arith, six_length ns)

-- 9 bytes, and 12 for each node
pub file_length : (text : List ℕ) (v : Value) → length (file text v) ≡ 9 + 12 * length (table v)
file_length text v = omega (arith, numbers_length (six_words (table v)), six_length (table v))

-- the two bytes of a number, and each of them
pub pair_at : (ns : List ℕ) (j : ℕ) → j < length ns → take 2 (drop (2 * j) (numbers 2 ns)) ≡ number 2 (get_or ns j 0)
pair_at [] j h = absurd (omega arith)
pair_at (n ∷ ns) zero h = refl
pair_at (n ∷ ns) (suc j) h =
    let e : 2 * suc j ≡ suc (suc (2 * j)) = omega arith in
    ap (λ (m : ℕ). take 2 (drop m (numbers 2 (n ∷ ns)))) e ∙ pair_at ns j (omega (arith, h))

pub byte_at : (ns : List ℕ) (k : ℕ) → k < 2 * length ns → get_or (numbers 2 ns) k 0 ≡ get_or (number 2 (get_or ns (k / 2) 0)) (k % 2) 0
byte_at ns k h =
    let j = 2 * (k / 2) in
    let e : k ≡ j + k % 2 = omega arith in
    ap (λ (i : ℕ). get_or (numbers 2 ns) i 0) e
    ∙ sym (get_or-drop j (numbers 2 ns) (k % 2) 0)
    ∙ sym (get_or-take 2 (drop j (numbers 2 ns)) (k % 2) 0 (omega arith))
    ∙ ap (λ (l : List ℕ). get_or l (k % 2) 0) (pair_at ns (k / 2) (omega (arith, h)))

-- the six words of a node are the first of its words in the table, which begins at any index
six_from : (ns : List Node) (m j : ℕ) → j < 6 * length ns → get_or (six_words ns) j 0 ≡ word_at (words_from m ns) (j / 6) (j % 6)
six_from [] m j h = absurd (omega arith)
six_from (n ∷ ns) m zero h = refl
six_from (n ∷ ns) m (suc zero) h = refl
six_from (n ∷ ns) m (suc (suc zero)) h = refl
six_from (n ∷ ns) m (suc (suc (suc zero))) h = refl
six_from (n ∷ ns) m (suc (suc (suc (suc zero)))) h = refl
six_from (n ∷ ns) m (suc (suc (suc (suc (suc zero))))) h = refl
six_from (n ∷ ns) m (suc (suc (suc (suc (suc (suc j)))))) h =
    let e : suc (suc (suc (suc (suc (suc j))))) / 6 * node_words + suc (suc (suc (suc (suc (suc j))))) % 6 ≡ suc (suc (suc (suc (suc (suc (suc (j / 6 * node_words + j % 6))))))) = omega arith in
    six_from ns (m + 1) j (omega arith) ∙ ap (λ (k : ℕ). get_or (words_from m (n ∷ ns)) k 0) (sym e)

pub six_at : (ns : List Node) (j : ℕ) → j < 6 * length ns → get_or (six_words ns) j 0 ≡ word_at (table_words ns) (j / 6) (j % 6)
six_at ns j h = six_from ns 0 j h
