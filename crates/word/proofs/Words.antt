-- Bare words, and exactly these bytes. Assumes nothing.
use mathlib.Core.Path.{◌≡◌, sym, ap, subst, subst⁻¹, ◌∙◌}
use mathlib.Core.Logic.{⊎_elim}
use mathlib.Core.Bool.{Bool, true, false}
use Rattle.std.proofs.Common.{Option, Some, None, Bor, map, refl}
use Rattle.std.specs.List.{AllWithin, All}
use Rattle.std.proofs.lemmas.List.{get_or-map, length-map}
use Rattle.std.proofs.lemmas.List.Elements.{All-map, All-from_all_within, AllWithin-more}
use Rattle.std.specs.List.{slice_range}
use Rattle.std.specs.Slice.{IsItemAt, IsGetRangeResult}
use Rattle.std.specs.Cmp.Lexicographic.{pointwise}
use Rattle.std.proofs.lemmas.Grind.{same_number_lists}
use Rattle.std.proofs.lemmas.List.Edits.{length-between, get_or-between}
use Rattle.std.proofs.lemmas.Bool.Decides.{Decides-eqb}
use Rattle.std.proofs.lemmas.Slice.Eq.{slice_eq-Decides}
use lib.Dec.{eqb}
use mathlib.Core.List.{List, [], ◌∷◌}
use Prim.Native.Nat.{ℕ, zero, suc, ◌+◌, ◌-◌, ◌≤◌, ◌<◌}
use native.Mathlib.Omega.{arith}
use lib.ListN.{length, get_or}
use Rattle.rules.specs.Test.{Says}
use Rattle.rules.specs.Class.{Class, has, just, codes, ◌to◌}
use Rattle.rules.specs.Rule.{Rule, one, many, row, lit, Takes, nothing, byte, both, At, Longest, Fails}
use Rattle.rules.proofs.Bools.{clash}
use Rattle.rules.proofs.Classes.{is_just, just_is, includes, in_some, low_in, in_high}
use Rattle.rules.proofs.Ways.{opens, opens_at}
use Rattle.rules.proofs.Matches.{starting, one_at, row_end, inside}
use Rattle.lexicon.specs.declared.Set.TheVariants.{WordStart}
use Rattle.text.specs.Classes.{IsTable, in_sum}
use Rattle.text.proofs.Sets.{in_table}
use Rattle.lexicon.specs.declared.Head.{Head}
use Rattle.lexicon.specs.declared.Head.TheVariants.{Array, Set, Bag, Mix, IntervalSet, IntervalBag, TupleArray, Relation, TupleBag, Article, Excuse, Heading, Renaming}
use Rattle.lexicon.specs.Bytes.{word_start, word_rest}
use Rattle.lexicon.specs.Literals.{word}
use Rattle.lexicon.specs.Token.{head_word}

-- ---- words

-- by the byte that stands at the place, and its entry in the table
module _ (text table : List ℕ) (i : ℕ) (t : IsTable table) (x : Bor ℕ) (lent : IsItemAt text i (Some x)) (f : (k : ℕ) → get_or text k 0 < 256) {o : Bool} (e : o ≡ in_sum WordStart (get_or table x.now 0)) where
  starts_lem : o ≡ has word_start (get_or text i 0)
  starts_lem = let same : x.now ≡ get_or text i 0 = lent.4 (omega arith) 0 in in_table WordStart t (f i) (subst (λ (b : ℕ). o ≡ in_sum WordStart (get_or table b 0)) same e)

  pub word_other : o ≡ false → Fails text word i
  word_other g = record { none = go }
    where
      go : {k : ℕ} → Takes text word i k → ⊥
      go (both (byte a h) u) = clash (starts_lem ∙ a.1) g

  pub word_on : {j : ℕ} → o ≡ true → Longest text (many (one word_rest)) (i + 1) j → Longest text word i j
  word_on {j} g l = record { takes = both (one_at (lent.3.0, sym starts_lem ∙ g)) l.takes; most = most }
    where
      most : {k : ℕ} → Takes text word i k → k ≤ j
      most (both (byte b h) u) = l.most (starting h u)

-- ---- exactly these bytes

module _ (text : List ℕ) where
  -- the bytes of w up to the nth stand from i on
  abbrev pub Same : List ℕ → ℕ → ℕ → Type 0
  Same w i n = (k : ℕ) → k < n → (i + k < length text) × (get_or text (i + k) 0 ≡ get_or w k 0)

  first_byte_lem : (b i : ℕ) → (i + 0 < length text) × (get_or text (i + 0) 0 ≡ b) → At text (just b) i
  first_byte_lem b i s =
      let e : i + 0 ≡ i = omega arith in (
        omega arith,
        is_just b (get_or text i 0) (sym (ap (λ (k : ℕ). get_or text k 0) e) ∙ s.1),
      )

  tail_same : (b : ℕ) (w : List ℕ) (i n : ℕ) → Same (b ∷ w) i (suc n) → Same w (i + 1) n
  tail_same b w i n s k h =
      let t = s (suc k) (omega arith) in
      let e : i + suc k ≡ i + 1 + k = omega arith in
      (omega arith, ap (λ (x : ℕ). get_or text x 0) (sym e) ∙ t.1)

  pub row_takes : (w : List ℕ) (i j : ℕ) → j ≡ i + length w → Same w i (length w) → Takes text (row w) i j
  row_takes [] i j e s = let f : i ≡ j = omega arith in nothing f
  row_takes (b ∷ []) i j e s = let f : j ≡ i + 1 = omega arith in byte (first_byte_lem b i (s 0 (omega arith))) f
  row_takes (b ∷ c ∷ w) i j e s =
      both (one_at (first_byte_lem b i (s 0 (omega arith))))
      (row_takes (c ∷ w) (i + 1) j (omega arith) (tail_same b (c ∷ w) i (length (c ∷ w)) s))

  same_first : (b i : ℕ) → At text (just b) i → (i + 0 < length text) × (get_or text (i + 0) 0 ≡ b)
  same_first b i a =
      let e : i + 0 ≡ i = omega arith in (omega arith, ap (λ (k : ℕ). get_or text k 0) e ∙ just_is b (get_or text i 0) a.1)

  same_tail : (b : ℕ) (w : List ℕ) (i m k : ℕ) → m ≡ i + 1 → (m + k < length text) × (get_or text (m + k) 0 ≡ get_or w k 0) → (i + suc k < length text) × (get_or text (i + suc k) 0 ≡ get_or (b ∷ w) (suc k) 0)
  same_tail b w i m k f t =
      let e : i + suc k ≡ m + k = omega arith in (omega arith, ap (λ (x : ℕ). get_or text x 0) e ∙ t.1)

  pub row_same : (w : List ℕ) {i j : ℕ} → Takes text (row w) i j → Same w i (length w)
  row_same [] t k h = absurd (omega arith)
  row_same (b ∷ []) {i} (byte a e) zero h = same_first b i a
  row_same (b ∷ []) (byte a e) (suc k) h = absurd (omega arith)
  row_same (b ∷ c ∷ w) {i} (both (byte a e) t) zero h = same_first b i a
  row_same (b ∷ c ∷ w) {i} (both {m = m} (byte a e) t) (suc k) h =
      same_tail b (c ∷ w) i m k e (row_same (c ∷ w) t k (omega arith))

-- a row of bytes stands within the text, but for none of them
row_inside : {text : List ℕ} (w : List ℕ) {i j : ℕ} → 0 < length w → Takes text (row w) i j → j ≤ length text
row_inside [] h t = absurd (omega arith)
row_inside (b ∷ []) h (byte a e) = omega (arith, a.0)
row_inside (b ∷ c ∷ w) h (both (byte a e) t) = inside t (omega (arith, a.0))

module _ {text : List ℕ} {i j : ℕ} where
  -- the part of the text from i to j is w just where w stands there
  part_is : (w : List ℕ) → i ≤ j → j ≤ length text → slice_range text i j ≡ w → Takes text (row w) i j
  part_is w h l e =
      let n : length w ≡ j - i = ap length (sym e) ∙ length-between text i j l in
      row_takes text w i j (omega arith) (λ k lt. (omega arith, sym (get_or-between text i j k 0 (omega arith)) ∙ ap (λ (x : List ℕ). get_or x k 0) e))

  is_part : (w : List ℕ) → j ≤ length text → Takes text (row w) i j → slice_range text i j ≡ w
  is_part w l t =
      let e = row_end w t in
      let n : length (slice_range text i j) ≡ length w = length-between text i j l ∙ omega arith in
      same_number_lists (slice_range text i j) w n (λ k lt. get_or-between text i j k 0 (omega arith) ∙ (row_same text w t k (omega arith)).1)

-- the part of the text, by what a comparison with it tells
module _ {text : List ℕ} {i j : ℕ} {r : Option (Bor (List ℕ))} (p : IsGetRangeResult text i j r) where
  pub part_says : (x : Bor (List ℕ)) (w : List ℕ) {o : Bool} → r ≡ Some x → o ≡ pointwise eqb x.now w → Says o (Takes text (row w) i j)
  part_says x w {o} e f =
      let q : IsGetRangeResult text i j (Some x) = subst (IsGetRangeResult text i j) e p in
      let d = slice_eq-Decides Decides-eqb x.now w o f in
      record {
        true_holds = λ t. part_is w q.0.0 q.0.1 (sym q.0.2 ∙ d.0 t);
        holds_true = λ t. d.1 (q.0.2 ∙ is_part w q.0.1 t);
      }

module _ {text : List ℕ} {i j : ℕ} {r : Option (Bor (List ℕ))} (p : IsGetRangeResult text i j r) where
  -- with no such part no head word stands there
  pub no_part : r ≡ None → (h : Head) → Takes text (lit (head_word h)) i j → ⊥
  no_part e h t =
      let q : IsGetRangeResult text i j None = subst (IsGetRangeResult text i j) e p in
      ⊎_elim (λ back. omega (arith, row_end (codes (head_word h)) t)) (λ over. omega (arith, row_inside (codes (head_word h)) (long h) t)) q.0
    where
      long : (h : Head) → 0 < length (codes (head_word h))
      long Array = omega arith
      long h = omega arith

-- ---- head words

abbrev capital : Class
capital = "A" to "Z" ∷ []

head_opens : (h : Head) → opens capital (lit (head_word h)) ≡ true
unfolding opens includes in_some
head_opens Array = refl
head_opens Set = refl
head_opens Bag = refl
head_opens Mix = refl
head_opens IntervalSet = refl
head_opens IntervalBag = refl
head_opens TupleArray = refl
head_opens Relation = refl
head_opens TupleBag = refl
head_opens Article = refl
head_opens Excuse = refl
head_opens Heading = refl
head_opens Renaming = refl

-- a head word begins with a capital letter
pub no_capital : {text : List ℕ} {i j : ℕ} → (i < length text → 0x41 ≤ get_or text i 0 → get_or text i 0 ≤ 0x5A → ⊥) → (h : Head) → Takes text (lit (head_word h)) i j → ⊥
no_capital {text} {i} f h t =
    let a = opens_at text capital (lit (head_word h)) (head_opens h) t in
    f a.0 (low_in 0x41 0x5A (get_or text i 0) a.1) (in_high 0x41 0x5A (get_or text i 0) a.1)

-- each head word by its spelling, in the order of the table
abbrev heads : List Head
heads = Array ∷ Set ∷ Bag ∷ Mix ∷ IntervalSet ∷ IntervalBag ∷ TupleArray ∷ Relation ∷ TupleBag ∷ Renaming ∷ Article ∷ Heading ∷ Excuse ∷ []

abbrev entry : Bor (List ℕ) × Head → Rule × Head
entry e = (row e.0.now, e.1)

pub record IsHeads (es : List (Bor (List ℕ) × Head)) : Type 0 where
  pub same : map entry es ≡ map {B = Rule × Head} (λ h. (lit (head_word h), h)) heads

-- the bytes of none of the first k entries stand from i to j
pub record Passed (text : List ℕ) (i j : ℕ) (es : List (Bor (List ℕ) × Head)) (k : ℕ) : Type 0 where
  pub none : AllWithin (λ e. Takes text (row e.0.now) i j → ⊥) es 0 k

same_entry : {X : Type 0} (xs : List X) (k : ℕ) (d e : X) → k < length xs → get_or xs k d ≡ get_or xs k e
same_entry [] k d e l = absurd (omega arith)
same_entry (x ∷ xs) zero d e l = refl
same_entry (x ∷ xs) (suc k) d e l = same_entry xs k d e (omega arith)

pub pass : {text : List ℕ} {i j : ℕ} {es : List (Bor (List ℕ) × Head)} {k : ℕ} (d : Bor (List ℕ) × Head) → k < length es → Passed text i j es k → (Takes text (row (get_or es k d).0.now) i j → ⊥) → Passed text i j es (k + 1)
pass {text} {i} {j} {es} {k} d l p n =
    let here : (e : Bor (List ℕ) × Head) → Takes text (row (get_or es k e).0.now) i j → ⊥ = λ e t. n (subst (λ y. Takes text (row y.0.now) i j) (same_entry es k e d l) t) in
    record { none = AllWithin-more (λ e. Takes text (row e.0.now) i j → ⊥) es 0 k p.none here }

module _ {es : List (Bor (List ℕ) × Head)} (t : IsHeads es) where
  -- an entry's bytes are its head word
  one_head : (k : ℕ) (d : Bor (List ℕ) × Head) → k < length es → row (get_or es k d).0.now ≡ lit (head_word (get_or es k d).1)
  one_head k d l = ap (λ s. s.0) (sym (get_or-map entry es k d (entry d) l)) ∙ each k (entry d) (omega (arith, length-map es entry)) ∙ ap (λ s. lit (head_word s.1)) (get_or-map entry es k d (entry d) l)
    where
      each : All {X = Rule × Head} (λ s. s.0 ≡ lit (head_word s.1)) (map entry es)
      each = subst⁻¹ (All {X = Rule × Head} (λ s. s.0 ≡ lit (head_word s.1))) t.same (All-map (λ s. s.0 ≡ lit (head_word s.1)) (λ h. (lit (head_word h), h)) heads (λ k d l. refl))

  module _ {text : List ℕ} {i j : ℕ} where
    pub the_head : (k : ℕ) (d : Bor (List ℕ) × Head) → k < length es → Takes text (row (get_or es k d).0.now) i j → Takes text (lit (head_word (get_or es k d).1)) i j
    the_head k d l = subst (λ r. Takes text r i j) (one_head k d l)

    -- where no entry's bytes stand no head word does
    pub no_head : {k : ℕ} → length es ≤ k → Passed text i j es k → (h : Head) → Takes text (lit (head_word h)) i j → ⊥
    no_head {k} l p = by_head
      where
        each : All {X = Rule × Head} (λ s. Takes text s.0 i j → ⊥) (map {B = Rule × Head} (λ h. (lit (head_word h), h)) heads)
        each = subst (All {X = Rule × Head} (λ s. Takes text s.0 i j → ⊥)) t.same (All-map (λ s. Takes text s.0 i j → ⊥) entry es (All-from_all_within (λ e. Takes text (row e.0.now) i j → ⊥) es (λ m d a b. p.none m d a (omega arith))))

        by_head : (h : Head) → Takes text (lit (head_word h)) i j → ⊥
        by_head Array = each 0 (row [], Array) (omega arith)
        by_head Set = each 1 (row [], Set) (omega arith)
        by_head Bag = each 2 (row [], Bag) (omega arith)
        by_head Mix = each 3 (row [], Mix) (omega arith)
        by_head IntervalSet = each 4 (row [], IntervalSet) (omega arith)
        by_head IntervalBag = each 5 (row [], IntervalBag) (omega arith)
        by_head TupleArray = each 6 (row [], TupleArray) (omega arith)
        by_head Relation = each 7 (row [], Relation) (omega arith)
        by_head TupleBag = each 8 (row [], TupleBag) (omega arith)
        by_head Renaming = each 9 (row [], Renaming) (omega arith)
        by_head Article = each 10 (row [], Article) (omega arith)
        by_head Heading = each 11 (row [], Heading) (omega arith)
        by_head Excuse = each 12 (row [], Excuse) (omega arith)
