-- The lines of a listing, put together, and how long they are. Assumes nothing.
use mathlib.Core.Path.{◌≡◌, refl, sym, ap, ◌∙◌, subst}
use mathlib.Core.List.{List, [], ◌∷◌, ◌++◌, append_assoc}
use mathlib.Core.Option.{Option}
use Prim.Native.Nat.{ℕ, zero, suc, ◌+◌, ◌*◌, ◌^◌, ◌≤◌, ◌<◌}
use native.Mathlib.Numerals.{add-one}
use native.Mathlib.Omega.{arith}
use lib.ListN.{length, get_or, take, drop, length-append}
use lib.Seq.{get_or-take, get_or-drop}
use Rattle.grammar.specs.Tree.{Value}
use Rattle.grammar.specs.Nodes.{node_words, word_at}
use Rattle.reading.specs.declared.Answer.{Answer}
use Rattle.reading.specs.Sizes.{base, room}
use Rattle.reading.specs.Answers.{Reading, Answers, no_level, too_long, not_utf8, faulty, no_room, accepted}
use Rattle.buffer.specs.declared.Writer.{Writer}
use Rattle.buffer.specs.Puts.{Puts}
use Rattle.buffer.specs.Appends.{Appends}
use Rattle.buffer.proofs.Puts.{puts_ends, puts_length, puts_start}
use Rattle.buffer.proofs.Appending.{appends_same, appends_then}
use Rattle.listing.specs.Listing.{decimal, space, newline, head_line, node_line, longest_line, node_lines, listed, listing}
use Rattle.listing.specs.Written.{Listed}
use Rattle.listing.proofs.Digits.{decimal_short}

word_short : (n : ℕ) → n < 2 ^ 32 → length (decimal n) ≤ 10
word_short n h = decimal_short 9 n (omega arith)

head_short : (a b m n : ℕ) → m < 2 ^ 64 → n < 2 ^ 64 → length (head_line a b m n) ≤ 45
head_short a b m n hm hn =
    simp length-append (omega (arith, decimal_short 19 m (omega arith), decimal_short 19 n (omega arith)))

-- so many words behind a node's first, each behind one space
unfoldable pub cells : (ℕ → ℕ) → ℕ → List ℕ
cells word zero = []
cells word (suc k) = cells word k ++ (space ∷ decimal (word (suc k)))

module _ (word : ℕ → ℕ) where
  cells_next : (k : ℕ) → cells word (k + 1) ≡ cells word k ++ (space ∷ decimal (word (k + 1)))
  unfolding cells
  cells_next k = rw add-one refl

  cells_all : decimal (word 0) ++ (cells word 6 ++ (newline ∷ [])) ≡ node_line word
  unfolding cells
  cells_all =
      let earlier : (k : ℕ) (l : List ℕ) → cells word (suc k) ++ l ≡ cells word k ++ ((space ∷ decimal (word (suc k))) ++ l) =
      λ k l. append_assoc (cells word k) (space ∷ decimal (word (suc k))) l in
      ap (λ (l : List ℕ). decimal (word 0) ++ l) (earlier 5 _ ∙ earlier 4 _ ∙ earlier 3 _ ∙ earlier 2 _ ∙ earlier 1 _ ∙ earlier 0 _)

  pub cells_none : {w : Writer} → Appends w [] w → Appends w (cells word 0) w
  unfolding cells
  cells_none a = a

  pub cells_more : {u v w : Writer} (k : ℕ) {x : ℕ} → x ≡ word (k + 1) → Appends u (cells word k) v → Appends v (space ∷ decimal x) w →
      Appends u (cells word (k + 1)) w
  cells_more k e a b = appends_same (sym (cells_next k)) (appends_then a (appends_same (ap (λ (n : ℕ). space ∷ decimal n) e) b))

  -- the whole line
  pub line_whole : {u v w x : Writer} (k : ℕ) → k ≡ 6 → Appends u (decimal (word 0)) v → Appends v (cells word k) w →
      Appends w (newline ∷ []) x → Appends u (node_line word) x
  line_whole k e first others end =
      appends_same (ap (λ (n : ℕ). decimal (word 0) ++ (cells word n ++ (newline ∷ []))) e ∙ cells_all)
      (appends_then first (appends_then others end))

  pub line_short : ((k : ℕ) → word k < 2 ^ 32) → length (node_line word) ≤ longest_line
  line_short h =
      let s : (k : ℕ) → length (decimal (word k)) ≤ 10 = λ k. word_short (word k) (h k) in
      simp length-append (omega (arith, s 0, s 1, s 2, s 3, s 4, s 5, s 6))

module _ (t : List ℕ) where
  -- a word of the node's, behind its first
  pub word_behind : (n k : ℕ) {a m : ℕ} → a ≡ n * node_words + 1 → k < m → get_or (take m (drop a t)) k 0 ≡ word_at t n (k + 1)
  word_behind n k {a} {m} e h = get_or-take m (drop a t) k 0 h ∙ get_or-drop a t k 0 ∙ ap (λ (j : ℕ). get_or t j 0) (omega (arith, e))

  nodes_next : (n : ℕ) → node_lines t (n + 1) ≡ node_lines t n ++ node_line (λ k. word_at t n k)
  unfolding node_lines
  nodes_next n = ap (λ (m : ℕ). node_lines t m) (add-one n)

  pub nodes_none : {w : Writer} → Appends w [] w → Appends w (node_lines t 0) w
  unfolding node_lines
  nodes_none a = a

  pub nodes_more : {u v w : Writer} (n : ℕ) {m : ℕ} → Appends u (node_lines t n) v → Appends v (node_line (λ k. word_at t m k)) w → m ≡ n →
      Appends u (node_lines t (n + 1)) w
  nodes_more {v = v} {w = w} n a b e =
      appends_same (sym (nodes_next n)) (appends_then a (subst (λ (m : ℕ). Appends v (node_line (λ k. word_at t m k)) w) e b))

  pub nodes_short : ((k : ℕ) → get_or t k 0 < 2 ^ 32) → (n : ℕ) → length (node_lines t n) ≤ longest_line * n
  unfolding node_lines
  nodes_short h zero = omega arith
  nodes_short h (suc n) =
      omega (arith, nodes_short h n, line_short (λ k. word_at t n k) (λ k. h (n * node_words + k)), length-append (node_lines t n) (node_line (λ k. word_at t n k)))

-- by the answer's number
pub listing_refused : (level : ℕ) (a : Answer) (t : List ℕ) → (a.number ≡ 0 → ⊥) → listing level a t ≡ head_line 110 111 a.number a.place
listing_refused level a t h = go a.number h
  where
    go : (n : ℕ) → (n ≡ 0 → ⊥) → listed n level a t ≡ head_line 110 111 n a.place
    go zero h = absurd (h refl)
    go (suc n) h = refl

pub listing_accepted : (level : ℕ) (a : Answer) (t : List ℕ) → a.number ≡ 0 → listing level a t ≡ head_line 111 107 level a.count ++ node_lines t a.count
listing_accepted level a t e = ap (λ (n : ℕ). listed n level a t) e

-- an answer 0 counts no more nodes than there is room for
within_room : {text : List ℕ} {n level : ℕ} {a : Answer} {v : Option Value} → Reading base text n level a v → a.number ≡ 0 → a.count ≤ n
within_room (no_level _) e = omega arith
within_room (too_long _ _) e = omega arith
within_room (not_utf8 _ _ _) e = omega arith
within_room (faulty _ _ _ _) e = omega arith
within_room (no_room _ _ _ _ _) e = absurd (omega arith)
within_room (accepted _ _ _ _ h) e = h

-- nor than the table has room for
pub counted : {text t t' : List ℕ} {level : ℕ} {a : Answer} → Answers base text t level a t' → a.number ≡ 0 → a.count ≤ room base (length t)
counted x e = within_room x.reading e

-- a listing that fits stands whole
whole : {o o' : List ℕ} {r level : ℕ} {text t t' : List ℕ} (a : Answer) → Answers base text t level a t' →
    Puts o 0 (listing level a t') o' r → length (listing level a t') ≤ length o → Listed level text t t' o o' r
whole {o} {o'} {r} {level} {text} {t} {t'} a answers p h =
    let n : r ≡ length (listing level a t') = omega (arith, puts_ends p (omega (arith, h, p.within))) in
    record {
      answer = a;
      answers = answers;
      count = n;
      bytes_are = subst (λ (k : ℕ). o' ≡ listing level a t' ++ drop k o) (sym n) (puts_start p h);
      within = omega (arith, n, h, puts_length p);
    }

module _ {text t t' o o' : List ℕ} {level r : ℕ} (a : Answer) (answers : Answers base text t level a t') (longest : 45 + base.nodes * longest_line ≡ length o) where
  -- the line of a refusal
  pub list_refused : (a.number ≡ 0 → ⊥) → a.number < 2 ^ 64 → a.place < 2 ^ 64 → Puts o 0 (head_line 110 111 a.number a.place) o' r →
      Listed level text t t' o o' r
  list_refused h g f p =
      whole a answers (subst (λ (l : List ℕ). Puts o 0 l o' r) (sym is) p)
      (omega (arith, ap length is, head_short 110 111 a.number a.place g f))
    where
      is : listing level a t' ≡ head_line 110 111 a.number a.place
      is = listing_refused level a t' h

  -- the first line, and the nodes'
  pub list_accepted : a.number ≡ 0 → level < 2 ^ 64 → a.count < 2 ^ 64 → length (node_lines t' a.count) ≤ longest_line * a.count →
      Puts o 0 (head_line 111 107 level a.count ++ node_lines t' a.count) o' r → Listed level text t t' o o' r
  list_accepted h g f l p =
      whole a answers (subst (λ (l : List ℕ). Puts o 0 l o' r) (sym is) p)
      (omega (
        arith,
        counted answers h,
        l,
        ap length is ∙ length-append (head_line 111 107 level a.count) (node_lines t' a.count),
        head_short 111 107 level a.count g f,
      ))
    where
      is : listing level a t' ≡ head_line 111 107 level a.count ++ node_lines t' a.count
      is = listing_accepted level a t' h
