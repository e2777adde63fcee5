-- A text and its plain form have the same forms: groups, commas and spans are of every level, and so are arrows where the level has `<-`. Assumes nothing.
use mathlib.Core.Path.{◌≡◌, refl, sym, ap, subst, ◌∙◌}
use mathlib.Core.Bool.{Bool, true, false, ◌&&◌, false≢true}
use mathlib.Core.List.{List, ◌∷◌}
use Prim.Native.Nat.{ℕ}
use Rattle.lexicon.specs.declared.Token as Token
use Rattle.lexicon.specs.declared.Next.TheVariants as Next
use Rattle.lexicon.specs.Token.{Comes}
use Rattle.grammar.specs.Tokens.{Span, Tok}
use Rattle.grammar.specs.Tree
use Rattle.grammar.specs.Tree.{plain_name, bare_name, Arrow, rightward, leftward, Joiner, Style, Value, Plain, Item, Row, Listing, Attributes, Bounds}
use Rattle.grammar.specs.Level.{Level, intervals, left_arrows, has_collection, has_arrow_of, has_joiner, keeps, keeps_plain, keeps_item, keeps_row, keeps_listing, keeps_attributes, keeps_bounds}
use Rattle.grammar.proofs.OneTree.{one_tree}
use Rattle.grammar.proofs.Moved.{keeps_moved}
use Rattle.reading.specs.declared.Limits.{Limits}
use Rattle.reading.specs.Tokens.{Follow, nothing, next, seen}
use Rattle.reading.specs.Answers.{Accepted}
use Rattle.reading.proofs.Rows.{pick, no_end}
use Rattle.reading.proofs.First.{follows}
use Rattle.reading.proofs.Derived.{accepted_derived}
use Rattle.form.specs.Spell.{plain_form}
use Rattle.form.proofs.Reshape.{away, blank}
use Rattle.form.proofs.Normal.{pair_up, join_up, opened, closed, closed_tuple, norm, norm_plain, norm_item, norm_row, norm_listing, norm_attributes, norm_bounds}
use Rattle.form.proofs.Classes.{plain_tree}
use Rattle.form.proofs.Alone.{derived_pieces, spelled_reads, spelled_ends}
use Rattle.form.proofs.Plain.{plain_front}

both : {a b c d : Bool} → a ≡ b → c ≡ d → (a && c) ≡ (b && d)
both e f = cc (e, f)

with_true : (a b : Bool) → (a && b) ≡ (a && true && b)
with_true true b = refl
with_true false b = refl

swapped : (a b c : Bool) → c ≡ true → (b && true && a) ≡ (a && c && b)
swapped true true true e = refl
swapped true false true e = refl
swapped false true true e = refl
swapped false false true e = refl
swapped a b false e = absurd (false≢true e)

module _ (l : Level) where
  opened_forms : (i : Item Tree.attribute) → keeps_item l (opened i) ≡ keeps_item l i
  opened_forms (Tree.alone v) = refl
  opened_forms (Tree.named (plain_name n) k v) = refl
  opened_forms (Tree.named (bare_name h s) k v) = refl

  closed_forms : {s : Style} (o : Row s s) → keeps_listing l (closed o) ≡ keeps_row l o
  closed_forms (Tree.row_first i c) = refl
  closed_forms (Tree.row_led b i c) = refl
  closed_forms (Tree.row_next o i c) = refl

  tuple_forms : (o : Row Tree.opening Tree.attribute) → keeps_attributes l (closed_tuple o) ≡ keeps_row l o
  tuple_forms (Tree.row_first i c) = refl
  tuple_forms (Tree.row_led b i c) = opened_forms i
  tuple_forms (Tree.row_next o i c) = refl

  module _ (arrows : l left_arrows ≡ true) where
    pair_forms : (a : Arrow) (o k c : Span) (x y : Plain) → keeps_plain l (pair_up a o x k y c) ≡ (keeps_plain l x && has_arrow_of l a && keeps_plain l y)
    pair_forms rightward o k c x y = with_true (keeps_plain l x) (keeps_plain l y)
    pair_forms leftward o k c x y = with_true (keeps_plain l y) (keeps_plain l x) ∙ swapped (keeps_plain l x) (keeps_plain l y) (l left_arrows) arrows

    join_forms : (j : Joiner) (k : Span) (x y : Plain) → keeps_item l (join_up j x k y) ≡ (keeps_plain l x && has_joiner l j && keeps_plain l y)
    join_forms Tree.colon k x y = refl
    join_forms (Tree.arrow rightward) k x y = refl
    join_forms (Tree.arrow leftward) k x y = swapped (keeps_plain l x) (keeps_plain l y) (l left_arrows) arrows

    mutual
      value_forms : (v : Value) → keeps_plain l (norm v) ≡ keeps l v
      value_forms (Tree.plain p) = plain_forms p
      value_forms (Tree.bare h s) = refl

      plain_forms : (p : Plain) → keeps_plain l (norm_plain p) ≡ keeps_plain l p
      plain_forms (Tree.literal a s) = refl
      plain_forms (Tree.text w s) = refl
      plain_forms (Tree.nesting n) = refl
      plain_forms (Tree.group o v c) = value_forms v
      plain_forms (Tree.pair o p k v c) = both (plain_forms p) (value_forms v)
      plain_forms (Tree.arrowed o v a k w c) = pair_forms a o k c (norm v) (norm w) ∙ both (both (value_forms v) refl) (value_forms w)
      plain_forms (Tree.tuple o i c) = attributes_forms i
      plain_forms (Tree.lot o i c) = listing_forms i
      plain_forms (Tree.counted o h s k b i e c) = ap (λ (x : Bool). has_collection l h && x) (listing_forms i)
      plain_forms (Tree.interval o b c) = ap (λ (x : Bool). l intervals && x) (bounds_forms b)

      item_forms : {s : Style} (i : Item s) → keeps_item l (norm_item i) ≡ keeps_item l i
      item_forms (Tree.alone v) = value_forms v
      item_forms (Tree.open_named n k v) = value_forms v
      item_forms (Tree.named n k v) = value_forms v
      item_forms (Tree.joined v j k w) = join_forms j k (norm v) (norm w) ∙ both (both (value_forms v) refl) (value_forms w)
      item_forms (Tree.times v k c) = value_forms v

      row_forms : {f s : Style} (o : Row f s) (t : Style) (x : Item f → Item t) (y : Item s → Item t) →
          ((i : Item f) → keeps_item l (x i) ≡ keeps_item l i) → ((i : Item s) → keeps_item l (y i) ≡ keeps_item l i) → keeps_row l (norm_row o t x y) ≡ keeps_row l o
      row_forms (Tree.row_first i c) t x y f g = f (norm_item i) ∙ item_forms i
      row_forms (Tree.row_led b i c) t x y f g = g (norm_item i) ∙ item_forms i
      row_forms (Tree.row_next o i c) t x y f g = both (row_forms o t x y f g) (item_forms i)

      listing_forms : {s : Style} (i : Listing s) → keeps_listing l (norm_listing i) ≡ keeps_listing l i
      listing_forms Tree.no_item = refl
      listing_forms (Tree.one_comma c) = refl
      listing_forms (Tree.two_commas c d) = refl
      listing_forms (Tree.one_item i) = item_forms i
      listing_forms (Tree.led_item c i) = item_forms i
      listing_forms (Tree.trailing {s} o) = closed_forms (norm_row o s (λ i. i) (λ i. i)) ∙ row_forms o s (λ i. i) (λ i. i) (λ i. refl) (λ i. refl)
      listing_forms (Tree.last_item {s} o i) = both (row_forms o s (λ i. i) (λ i. i) (λ i. refl) (λ i. refl)) (item_forms i)

      attributes_forms : (i : Attributes) → keeps_attributes l (norm_attributes i) ≡ keeps_attributes l i
      attributes_forms Tree.no_attribute = refl
      attributes_forms (Tree.led_attribute c i) = opened_forms (norm_item i) ∙ item_forms i
      attributes_forms (Tree.trailing_comma o) = tuple_forms (norm_row o Tree.opening (λ i. i) opened) ∙ row_forms o Tree.opening (λ i. i) opened (λ i. refl) opened_forms
      attributes_forms (Tree.last_attribute o i) = both (row_forms o Tree.opening (λ i. i) opened (λ i. refl) opened_forms) (item_forms i)

      bounds_forms : (b : Bounds) → keeps_bounds l (norm_bounds b) ≡ keeps_bounds l b
      bounds_forms Tree.empty = refl
      bounds_forms (Tree.single v) = value_forms v
      bounds_forms (Tree.between v b k w) = both (value_forms v) (value_forms w)
      bounds_forms (Tree.from v a k) = value_forms v
      bounds_forms (Tree.up_to a k v) = value_forms v
      bounds_forms (Tree.all k) = refl

    tree_forms : (v w : Value) → blank w ≡ blank (Tree.plain (norm v)) → keeps l w ≡ keeps l v
    tree_forms v w e = sym (keeps_moved away l w) ∙ ap (keeps l) e ∙ keeps_moved away l (Tree.plain (norm v)) ∙ value_forms v

-- ---- the tree of the plain form

-- the row of a text that reaches its end is one
module _ (bytes : List ℕ) where
  whole_row : {p q r m n : ℕ} {ts us : List Tok} → Follow bytes p ts q → Comes bytes q (Next.End m) → Follow bytes p us r → Comes bytes r (Next.End n) → ts ≡ us
  whole_row nothing d nothing e = refl
  whole_row {q = q} nothing d (next c g) e = absurd (no_end bytes q c d)
  whole_row {r = r} (next c f) d nothing e = absurd (no_end bytes r c e)
  whole_row {r = r} (next {t = t} c f) d (next {t = u} {ts = us} b g) e =
      let same : u ≡ t = pick bytes b c in
      let o = whole_row f d (subst (λ (x : Token.Token). Follow bytes x.end us r) same g) e in
      λ i. seen (sym same i) ∷ o i

module _ (limits : Limits) (l : Level) (text : List ℕ) (v : Value) (a : Accepted limits text l v) where
  -- whichever limits and level accept the plain form
  pub same_forms : (other : Limits) {b : Level} {w : Value} → Accepted other (plain_form text v) b w → (m : Level) → m left_arrows ≡ true → keeps m w ≡ keeps m v
  same_forms other {b} {w} x m arrows =
      let ps = derived_pieces limits l text v (accepted_derived limits text a) in
      let t = plain_tree text v in
      let row = whole_row (plain_form text v) (follows (plain_form text v) other b (plain_front text v ps) x.passed.good) x.passed.at_end (spelled_reads text v ps) (spelled_ends text v) in
      ap (keeps m) (one_tree w t.0 (row ∙ t.1)) ∙ tree_forms m arrows v t.0 t.2
