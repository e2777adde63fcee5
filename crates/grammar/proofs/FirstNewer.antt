-- Whether a newer form begins here is a test of three tokens, and the first newer form of a text is found. Assumes nothing.
use mathlib.Core.Path.{◌≡◌, refl, sym, ap, subst, ◌∙◌}
use mathlib.Core.Bool.{Bool, true, false, not, ◌&&◌, false≢true}
use mathlib.Core.List.{List, [], ◌∷◌, ◌++◌, append_assoc, append-nil}
use mathlib.Core.Option.{Option, none, some}
use Prim.Native.Nat.{ℕ}
use native.Mathlib.Omega.{arith}
use Rattle.rules.proofs.Bools.{and_left, and_right, and_both, not_true}
use Rattle.lexicon.specs.declared.Head.{Head}
use Rattle.grammar.specs.Tokens
use Rattle.grammar.specs.Tokens.{Span, Tok, tok, Class, Wording, Mark}
use Rattle.grammar.specs.Level.{Level, intervals, has_head}
use Rattle.grammar.specs.Place.{ForValue, Beyond, newer_head, newer_bracket, later_literal, Newer}
use Rattle.grammar.proofs.Frames.{Config, want, have, want_text, want_curly, want_count, have_item, want_close}
use Rattle.grammar.proofs.Machine.{runs}
use Rattle.grammar.proofs.Viable.{wants, wants_value, place_runs}
use Rattle.grammar.proofs.Levels.{Known}

-- ---- a list one token longer, taken apart at one of its tokens

data SplitLast (xs : List Tok) (t : Tok) (zs : List Tok) (u : Tok) (bs : List Tok) : Type 0 where
  at_last : xs ≡ zs → t ≡ u → bs ≡ [] → SplitLast xs t zs u bs
  before : (ws : List Tok) → xs ≡ zs ++ (u ∷ ws) → bs ≡ ws ++ (t ∷ []) → SplitLast xs t zs u bs

no_empty : (zs : List Tok) (u : Tok) (bs : List Tok) → [] ≡ zs ++ (u ∷ bs) → ⊥
no_empty [] u bs e = let z : ◌≡◌ {A = ℕ} 0 1 = cc in omega arith
no_empty (a ∷ zs) u bs e = let z : ◌≡◌ {A = ℕ} 0 1 = cc in omega arith

same_head : {x y : Tok} {xs ys : List Tok} → x ∷ xs ≡ y ∷ ys → x ≡ y
same_head e = cc

same_rest : {x y : Tok} {xs ys : List Tok} → x ∷ xs ≡ y ∷ ys → xs ≡ ys
same_rest e = cc

longer : (x y : Tok) (xs : List Tok) (t : Tok) (zs : List Tok) (u : Tok) (bs : List Tok) → x ≡ y → SplitLast xs t zs u bs → SplitLast (x ∷ xs) t (y ∷ zs) u bs
longer x y xs t zs u bs e (at_last p q r) = at_last (λ i. e i ∷ p i) q r
longer x y xs t zs u bs e (before ws p r) = before ws (λ i. e i ∷ p i) r

split_last : (xs : List Tok) (t : Tok) (zs : List Tok) (u : Tok) (bs : List Tok) → xs ++ (t ∷ []) ≡ zs ++ (u ∷ bs) → SplitLast xs t zs u bs
split_last [] t [] u bs e = at_last refl (same_head e) (sym (same_rest e))
split_last [] t (a ∷ zs) u bs e = absurd (no_empty zs u bs (same_rest e))
split_last (x ∷ xs) t [] u bs e = before xs (λ i. same_head e i ∷ xs) (sym (same_rest e))
split_last (x ∷ xs) t (a ∷ zs) u bs e = longer x a xs t zs u bs (same_head e) (split_last xs t zs u bs (same_rest e))

-- a value is wanted
abbrev pub wanting : Option Config → Bool
wanting none = false
wanting (some (want K)) = true
wanting (some (have v K)) = false
wanting (some (want_text n o K)) = false
wanting (some (want_curly o h t k K)) = false
wanting (some (want_count c f v k K)) = false
wanting (some (have_item c f i K)) = false
wanting (some (want_close c K)) = false

module _ (l : Level) where
  -- ---- the test

  abbrev colon_lacks : Mark → Head → Bool
  colon_lacks Tokens.round_close h = false
  colon_lacks Tokens.curly_close h = false
  colon_lacks Tokens.square_close h = false
  colon_lacks Tokens.comma h = false
  colon_lacks Tokens.colon h = not (has_head l h)
  colon_lacks Tokens.right_arrow h = false
  colon_lacks Tokens.left_arrow h = false
  colon_lacks Tokens.dots h = false
  colon_lacks (Tokens.star a b) h = false

  abbrev mark_lacks : Class → Head → Bool
  mark_lacks (Tokens.atom a) h = false
  mark_lacks (Tokens.text w) h = false
  mark_lacks Tokens.names h = false
  mark_lacks Tokens.round h = false
  mark_lacks Tokens.curly h = false
  mark_lacks Tokens.square h = false
  mark_lacks (Tokens.mark m) h = colon_lacks m h
  mark_lacks Tokens.later h = false

  abbrev word_lacks : Wording → Class → Bool
  word_lacks (Tokens.spelled w) k = false
  word_lacks (Tokens.head_word h) k = mark_lacks k h

  abbrev text_lacks : Class → Class → Bool
  text_lacks (Tokens.atom a) k = false
  text_lacks (Tokens.text w) k = word_lacks w k
  text_lacks Tokens.names k = false
  text_lacks Tokens.round k = false
  text_lacks Tokens.curly k = false
  text_lacks Tokens.square k = false
  text_lacks (Tokens.mark m) k = false
  text_lacks Tokens.later k = false

  abbrev pub head_next : List Tok → Bool
  head_next [] = false
  head_next (t ∷ []) = false
  head_next (t ∷ u ∷ ts) = text_lacks t.class u.class

  abbrev class_beyond : Class → List Tok → Bool
  class_beyond (Tokens.atom a) ts = false
  class_beyond (Tokens.text w) ts = false
  class_beyond Tokens.names ts = false
  class_beyond Tokens.round ts = head_next ts
  class_beyond Tokens.curly ts = false
  class_beyond Tokens.square ts = not (l intervals)
  class_beyond (Tokens.mark m) ts = false
  class_beyond Tokens.later ts = true

  abbrev pub is_beyond : List Tok → Bool
  is_beyond [] = false
  is_beyond (t ∷ ts) = class_beyond t.class ts

  -- ---- is exact

  pub beyond_holds : {ts : List Tok} → Beyond l ts → is_beyond ts ≡ true
  beyond_holds (newer_head e) = ap not e
  beyond_holds (newer_bracket e) = ap not e
  beyond_holds later_literal = refl

  colon_beyond : (m : Mark) (h : Head) (o s k : Span) (ts : List Tok) → colon_lacks m h ≡ true →
      Beyond l (tok Tokens.round o ∷ tok (Tokens.text (Tokens.head_word h)) s ∷ tok (Tokens.mark m) k ∷ ts)
  colon_beyond Tokens.round_close h o s k ts e = absurd (false≢true e)
  colon_beyond Tokens.curly_close h o s k ts e = absurd (false≢true e)
  colon_beyond Tokens.square_close h o s k ts e = absurd (false≢true e)
  colon_beyond Tokens.comma h o s k ts e = absurd (false≢true e)
  colon_beyond Tokens.colon h o s k ts e = newer_head (not_true (has_head l h) e)
  colon_beyond Tokens.right_arrow h o s k ts e = absurd (false≢true e)
  colon_beyond Tokens.left_arrow h o s k ts e = absurd (false≢true e)
  colon_beyond Tokens.dots h o s k ts e = absurd (false≢true e)
  colon_beyond (Tokens.star a b) h o s k ts e = absurd (false≢true e)

  mark_beyond : (c : Class) (h : Head) (o s k : Span) (ts : List Tok) → mark_lacks c h ≡ true →
      Beyond l (tok Tokens.round o ∷ tok (Tokens.text (Tokens.head_word h)) s ∷ tok c k ∷ ts)
  mark_beyond (Tokens.atom a) h o s k ts e = absurd (false≢true e)
  mark_beyond (Tokens.text w) h o s k ts e = absurd (false≢true e)
  mark_beyond Tokens.names h o s k ts e = absurd (false≢true e)
  mark_beyond Tokens.round h o s k ts e = absurd (false≢true e)
  mark_beyond Tokens.curly h o s k ts e = absurd (false≢true e)
  mark_beyond Tokens.square h o s k ts e = absurd (false≢true e)
  mark_beyond (Tokens.mark m) h o s k ts e = colon_beyond m h o s k ts e
  mark_beyond Tokens.later h o s k ts e = absurd (false≢true e)

  word_beyond : (w : Wording) (c : Class) (o s k : Span) (ts : List Tok) → word_lacks w c ≡ true → Beyond l (tok Tokens.round o ∷ tok (Tokens.text w) s ∷ tok c k ∷ ts)
  word_beyond (Tokens.spelled w) c o s k ts e = absurd (false≢true e)
  word_beyond (Tokens.head_word h) c o s k ts e = mark_beyond c h o s k ts e

  text_beyond : (d c : Class) (o s k : Span) (ts : List Tok) → text_lacks d c ≡ true → Beyond l (tok Tokens.round o ∷ tok d s ∷ tok c k ∷ ts)
  text_beyond (Tokens.atom a) c o s k ts e = absurd (false≢true e)
  text_beyond (Tokens.text w) c o s k ts e = word_beyond w c o s k ts e
  text_beyond Tokens.names c o s k ts e = absurd (false≢true e)
  text_beyond Tokens.round c o s k ts e = absurd (false≢true e)
  text_beyond Tokens.curly c o s k ts e = absurd (false≢true e)
  text_beyond Tokens.square c o s k ts e = absurd (false≢true e)
  text_beyond (Tokens.mark m) c o s k ts e = absurd (false≢true e)
  text_beyond Tokens.later c o s k ts e = absurd (false≢true e)

  round_beyond : (o : Span) (ts : List Tok) → head_next ts ≡ true → Beyond l (tok Tokens.round o ∷ ts)
  round_beyond o [] e = absurd (false≢true e)
  round_beyond o (t ∷ []) e = absurd (false≢true e)
  round_beyond o (t ∷ u ∷ ts) e = text_beyond t.class u.class o t.at u.at ts e

  first_beyond : (c : Class) (o : Span) (ts : List Tok) → class_beyond c ts ≡ true → Beyond l (tok c o ∷ ts)
  first_beyond (Tokens.atom a) o ts e = absurd (false≢true e)
  first_beyond (Tokens.text w) o ts e = absurd (false≢true e)
  first_beyond Tokens.names o ts e = absurd (false≢true e)
  first_beyond Tokens.round o ts e = round_beyond o ts e
  first_beyond Tokens.curly o ts e = absurd (false≢true e)
  first_beyond Tokens.square o ts e = newer_bracket (not_true (l intervals) e)
  first_beyond (Tokens.mark m) o ts e = absurd (false≢true e)
  first_beyond Tokens.later o ts e = later_literal

  pub holds_beyond : (ts : List Tok) → is_beyond ts ≡ true → Beyond l ts
  holds_beyond [] e = absurd (false≢true e)
  holds_beyond (t ∷ ts) e = first_beyond t.class t.at ts e

  -- of what stands behind, only a head counts
  class_further : (c : Class) (ts us : List Tok) → (head_next ts ≡ true → head_next us ≡ true) → class_beyond c ts ≡ true → class_beyond c us ≡ true
  class_further (Tokens.atom a) ts us f e = e
  class_further (Tokens.text w) ts us f e = e
  class_further Tokens.names ts us f e = e
  class_further Tokens.round ts us f e = f e
  class_further Tokens.curly ts us f e = e
  class_further Tokens.square ts us f e = e
  class_further (Tokens.mark m) ts us f e = e
  class_further Tokens.later ts us f e = e

  -- ---- at a place for a value

  wanting_place : (xs : List Tok) (s : Span) (m : Option Config) → runs l xs ≡ m → wanting m ≡ true → ForValue l xs s
  wanting_place xs s none e w = absurd (false≢true w)
  wanting_place xs s (some (want K)) e w = wants_value l xs (wants K) e s
  wanting_place xs s (some (have v K)) e w = absurd (false≢true w)
  wanting_place xs s (some (want_text n o K)) e w = absurd (false≢true w)
  wanting_place xs s (some (want_curly o h t k K)) e w = absurd (false≢true w)
  wanting_place xs s (some (want_count c f v k K)) e w = absurd (false≢true w)
  wanting_place xs s (some (have_item c f i K)) e w = absurd (false≢true w)
  wanting_place xs s (some (want_close c K)) e w = absurd (false≢true w)

  abbrev pub is_newer : List Tok → Tok → List Tok → Bool
  is_newer xs t ys = wanting (runs l xs) && is_beyond (t ∷ ys)

  pub newer_holds : (xs : List Tok) (t : Tok) (ys : List Tok) → Newer l xs t ys → is_newer xs t ys ≡ true
  newer_holds xs t ys n = and_both (wanting (runs l xs)) (is_beyond (t ∷ ys)) (ap wanting (place_runs l xs t.at n.place).1) (beyond_holds n.beyond)

  pub holds_newer : (xs : List Tok) (t : Tok) (ys : List Tok) → is_newer xs t ys ≡ true → Newer l xs t ys
  holds_newer xs t ys e =
      record {
        beyond = holds_beyond (t ∷ ys) (and_right (wanting (runs l xs)) (is_beyond (t ∷ ys)) e);
        place = wanting_place xs t.at (runs l xs) refl (and_left (wanting (runs l xs)) (is_beyond (t ∷ ys)) e);
      }

  -- a newer form with these tokens behind it is one with others too, if a head in those is one in these
  pub newer_further : (xs : List Tok) (t : Tok) (ts us : List Tok) → (head_next ts ≡ true → head_next us ≡ true) → Newer l xs t ts → Newer l xs t us
  newer_further xs t ts us f n = record { beyond = holds_beyond (t ∷ us) (class_further t.class ts us f (beyond_holds n.beyond)); place = n.place }

  -- ---- the first newer form

  pub data First (ts : List Tok) : Type 0 where
    all_known : Known l ts [] → First ts
    first_at : (xs : List Tok) (t : Tok) (ys : List Tok) → ts ≡ xs ++ (t ∷ ys) → Known l xs (t ∷ ys) → Newer l xs t ys → First ts

  known_none : (vs : List Tok) → Known l [] vs
  known_none vs = record { none = λ xs t ys e n. no_empty xs t ys e }

  known_next : (xs : List Tok) (t : Tok) (ys : List Tok) → Known l xs (t ∷ ys) → (Newer l xs t ys → ⊥) → Known l (xs ++ (t ∷ [])) ys
  known_next xs t ys k f =
      record { none = λ zs u bs e n. go zs u bs (split_last xs t zs u bs e) n }
    where
      go : (zs : List Tok) (u : Tok) (bs : List Tok) → SplitLast xs t zs u bs → Newer l zs u (bs ++ ys) → ⊥
      go zs u bs (at_last p q r) n =
          f (subst (λ (x : List Tok). Newer l x t ys) (sym p) (subst (λ (x : Tok). Newer l zs x ys) (sym q) (subst (λ (x : List Tok). Newer l zs u (x ++ ys)) r n)))
      go zs u bs (before ws p r) n =
          k.none zs u ws p (subst (λ (x : List Tok). Newer l zs u x) (ap (λ (x : List Tok). x ++ ys) r ∙ append_assoc ws (t ∷ []) ys) n)

  search_from : (ts xs : List Tok) → Known l xs ts → First (xs ++ ts)
  search_from [] xs k = subst First (sym (append-nil xs)) (all_known k)
  search_from (t ∷ ts) xs k = go (is_newer xs t ts) refl (λ f. search_from ts (xs ++ (t ∷ [])) (known_next xs t ts k f))
    where
      go : (b : Bool) → is_newer xs t ts ≡ b → ((Newer l xs t ts → ⊥) → First ((xs ++ (t ∷ [])) ++ ts)) → First (xs ++ (t ∷ ts))
      go true e f = first_at xs t ts refl k (holds_newer xs t ts e)
      go false e f = subst First (append_assoc xs (t ∷ []) ts) (f (λ n. false≢true (sym e ∙ newer_holds xs t ts n)))

  pub first_newer : (ts : List Tok) → First ts
  first_newer ts = search_from ts [] (known_none ts)
