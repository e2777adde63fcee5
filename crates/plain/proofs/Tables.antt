-- Nodes in a table of words: the words of the first, and two rows of them. Assumes nothing.
use mathlib.Core.Path.{◌≡◌, sym, ap, ◌∙◌}
use mathlib.Core.List.{List, ◌∷◌, ◌++◌, append_assoc}
use Prim.Native.Nat.{ℕ, ◌+◌, ◌*◌, ◌≤◌}
use native.Mathlib.Omega.{arith}
use lib.ListN.{length, get_or, length-append}
use lib.Seq.{get_or-append-add}
use Rattle.grammar.specs.Nodes.{Node, kind_number_of, role_number, node_words, role_word, skip_word, word_at, words_from}
use Rattle.grammar.proofs.NodeLaws.{words_length, words_append}
use Rattle.grammar.proofs.Branches.{Branch, branch, Branches, more, flat, flats}
use Rattle.form.proofs.Walk.{role_of}
use Rattle.plain.specs.Nodes.{Has, Stands, From}

-- ---- the words of the first node

word_is : {words : List ℕ} {i : ℕ} {ns : List Node} (x : Has words i ns) (k : ℕ) → word_at words i k ≡ get_or (words_from i ns ++ x.behind) k 0
word_is {i = i} {ns} x k =
    let e : i * node_words + k ≡ length x.before + k = omega (arith, x.index_is) in
    ap (λ (l : List ℕ). word_at l i k) x.words_are
    ∙ ap (λ (m : ℕ). get_or (x.before ++ (words_from i ns ++ x.behind)) m 0) e
    ∙ get_or-append-add x.before (words_from i ns ++ x.behind) k 0

module _ {words : List ℕ} {i : ℕ} {n : Node} {ns : List Node} (x : Has words i (n ∷ ns)) where
  pub kind_word_lem : word_at words i 0 ≡ kind_number_of n.kind
  kind_word_lem = word_is x 0

  pub first_word : word_at words i 1 ≡ n.at.first
  first_word = word_is x 1

  pub end_word_lem : word_at words i 2 ≡ n.at.end
  end_word_lem = word_is x 2

  pub detail_word_lem : word_at words i 5 ≡ n.detail
  detail_word_lem = word_is x 5

pub role_word_lem : {words : List ℕ} (b : Branch) (p : ℕ) {i : ℕ} → Stands words b p i → word_at words i role_word ≡ role_number (role_of b)
role_word_lem (branch k s r d bs) p x = word_is x role_word

pub skip_word_lem : {words : List ℕ} (b : Branch) (p : ℕ) {i : ℕ} → Stands words b p i → word_at words i skip_word ≡ i + length (flat b p i)
skip_word_lem (branch k s r d bs) p x = omega (arith, word_is x skip_word)

-- ---- how many there are

pub some_node : (b : Branch) (p n : ℕ) → 1 ≤ length (flat b p n)
some_node (branch k s r d bs) p n = omega arith

pub has_fits : {words : List ℕ} {i : ℕ} {ns : List Node} → Has words i ns → (i + length ns) * node_words ≤ length words
has_fits {i = i} {ns} x =
    omega (
      arith,
      x.index_is,
      words_length i ns,
      ap length x.words_are,
      length-append x.before (words_from i ns ++ x.behind),
      length-append (words_from i ns) x.behind,
    )

-- ---- two rows

module _ {words : List ℕ} {i : ℕ} (ns ms : List Node) (x : Has words i (ns ++ ms)) where
  both : words ≡ x.before ++ (words_from i ns ++ (words_from (i + length ns) ms ++ x.behind))
  both =
      x.words_are
      ∙ ap (λ (l : List ℕ). x.before ++ l) (
      ap (λ (l : List ℕ). l ++ x.behind) (words_append i ns ms) ∙ append_assoc (words_from i ns) (words_from (i + length ns) ms) x.behind
      )

  has_first : Has words i ns
  has_first =
      record {
        before = x.before;
        behind = words_from (i + length ns) ms ++ x.behind;
        words_are = both;
        index_is = x.index_is;
      }

  pub has_rest : Has words (i + length ns) ms
  has_rest =
      record {
        before = x.before ++ words_from i ns;
        behind = x.behind;
        words_are = both ∙ sym (append_assoc x.before (words_from i ns) (words_from (i + length ns) ms ++ x.behind));
        index_is = omega (arith, x.index_is, length-append x.before (words_from i ns), words_length i ns);
      }

module _ {words : List ℕ} (b : Branch) (bs : Branches) (p : ℕ) {i : ℕ} (x : From words (more b bs) p i) where
  pub from_first : Stands words b p i
  from_first = has_first (flat b p i) (flats bs p (i + length (flat b p i))) x

  pub from_rest : From words bs p (i + length (flat b p i))
  from_rest = has_rest (flat b p i) (flats bs p (i + length (flat b p i))) x
