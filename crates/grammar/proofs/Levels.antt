-- Two levels, one within the other: up to the first newer form of the lower one they read alike. Assumes nothing.
use mathlib.Core.Path.{◌≡◌, refl, sym, ap, subst, ◌∙◌}
use mathlib.Core.Bool.{Bool, true, false, false≢true}
use mathlib.Core.List.{List, [], ◌∷◌, ◌++◌, append_assoc, append-nil}
use mathlib.Core.Option.{Option, none, some}
use mathlib.Core.Logic.{◌↔◌}
use Rattle.lexicon.specs.declared.Head.{Head}
use Rattle.grammar.specs.Tokens
use Rattle.grammar.specs.Tokens.{Span, Tok, tok, Class}
use Rattle.grammar.specs.Tree
use Rattle.grammar.specs.Level.{Level, level1, level2, Feature, arrays, sets, bags, intervals, left_arrows, has_head, ◌Within◌}
use Rattle.grammar.specs.Place.{Sentence, Wrong, ForValue, Beyond, newer_head, newer_bracket, later_literal, Newer}
use Rattle.grammar.proofs.Frames.{opened, in_round, Stack, Config, want, have}
use Rattle.grammar.proofs.Machine.{step, run, runs}
use Rattle.grammar.proofs.Behind.{behind_stack}
use Rattle.grammar.proofs.Accepts.{run_none, reached, accepts, sentence_runs}
use Rattle.grammar.proofs.Viable.{one_more, wrong_runs, runs_wrong, wants, wants_value, place_runs}
use Rattle.grammar.proofs.NewerForms.{newer_begins}
use Rattle.grammar.proofs.Rebuild.{rebuild}
use Rattle.grammar.proofs.SameSteps.{SameForms, step_same}

-- no token of ts, behind which the tokens vs stand, begins a newer form
pub record Known (l : Level) (ts vs : List Tok) : Type 0 where
  pub none : (xs : List Tok) (t : Tok) (ys : List Tok) → ts ≡ xs ++ (t ∷ ys) → Newer l xs t (ys ++ vs) → ⊥

-- a test that passes wherever another one does, and that one does not fail
same : {x y : Bool} → (x ≡ true → y ≡ true) → (x ≡ false → ⊥) → x ≡ y
same {x = true} f g = sym (f refl)
same {x = false} f g = absurd (g refl)

lacks : {x y : Bool} → (x ≡ true → y ≡ true) → y ≡ false → x ≡ false
lacks {x = true} f e = absurd (false≢true (sym e ∙ f refl))
lacks {x = false} f e = refl

-- of fewer tokens it is known as well
pub known_first : (l : Level) (us ws vs : List Tok) → Known l (us ++ ws) vs → Known l us (ws ++ vs)
known_first l us ws vs k =
    record {
      none = λ xs t ys e n.
          k.none xs t (ys ++ ws) (ap (λ (x : List Tok). x ++ ws) e ∙ append_assoc xs (t ∷ ys) ws)
          (subst (λ (x : List Tok). Newer l xs t x) (sym (append_assoc ys ws vs)) n);
    }

-- a text of the level has no newer form
pub sentence_known : (l : Level) (ts : List Tok) → Sentence l ts → Known l ts []
sentence_known l ts s =
    record {
      none = λ xs t ys e n.
          newer_begins l xs t ys (subst (λ (x : List Tok). Newer l xs t x) (append-nil ys) n)
          (record { rest = []; sentence = subst (Sentence l) (e ∙ sym (append-nil (xs ++ (t ∷ ys)))) s });
    }

module _ (a b : Level) (within : a Within b) (arrows : a left_arrows ≡ b left_arrows) where
  head_within : (h : Head) → has_head a h ≡ true → has_head b h ≡ true
  head_within Head.Array e = within.has_too arrays e
  head_within Head.Set e = within.has_too sets e
  head_within Head.Bag e = within.has_too bags e
  head_within Head.Mix e = e
  head_within Head.IntervalSet e = e
  head_within Head.IntervalBag e = e
  head_within Head.TupleArray e = e
  head_within Head.Relation e = e
  head_within Head.TupleBag e = e
  head_within Head.Article e = e
  head_within Head.Excuse e = e
  head_within Head.Heading e = e
  head_within Head.Renaming e = e

  -- ---- a configuration that the tokens us lead to, before the token t

  known_bracket : (us : List Tok) (t : Tok) (ts vs : List Tok) (K : Stack) → runs a us ≡ some (want K) → Known a (us ++ (t ∷ ts)) vs → t.class ≡ Tokens.square → a intervals ≡ b intervals
  known_bracket us t ts vs K e k p =
      same (within.has_too intervals) λ f.
      k.none us t ts refl
      (record {
        beyond = subst (λ (c : Class). Beyond a (tok c t.at ∷ (ts ++ vs))) (sym p) (newer_bracket f);
        place = wants_value a us (wants K) e t.at;
      })

  known_head : (us : List Tok) (t : Tok) (ts vs : List Tok) (h : Head) (s o : Span) (K : Stack) →
      runs a us ≡ some (have (Tree.bare h s) (in_round (opened o) ∷ K)) → Known a (us ++ (t ∷ ts)) vs → t.class ≡ Tokens.mark Tokens.colon → has_head a h ≡ has_head b h
  known_head us t ts vs h s o K e k p =
      let g = reached a us _ e in
      let xs : List Tok = behind_stack K [] in
      let to : runs a xs ≡ some (want K) = rebuild a K g.level [] in
      let first : Tok = tok Tokens.round o in
      let second : Tok = tok (Tokens.text (Tokens.head_word h)) s in
      let split : us ++ (t ∷ ts) ≡ xs ++ (first ∷ second ∷ t ∷ ts) = sym (g.reads (t ∷ ts)) ∙ (reached a xs (want K) to).reads (first ∷ second ∷ t ∷ ts) in
      same (head_within h) λ f.
      k.none xs first (second ∷ t ∷ ts) split
      (record {
        beyond = subst (λ (c : Class). Beyond a (first ∷ second ∷ tok c t.at ∷ (ts ++ vs))) (sym p) (newer_head f);
        place = wants_value a xs (wants K) to o;
      })

  known_forms : (us : List Tok) (t : Tok) (ts vs : List Tok) (c : Config) → runs a us ≡ some c → Known a (us ++ (t ∷ ts)) vs → SameForms a b c t
  known_forms us t ts vs c e k =
      record {
        bracket = λ K q p. known_bracket us t ts vs K (e ∙ ap some q) k p;
        head = λ h s o K q p. known_head us t ts vs h s o K (e ∙ ap some q) k p;
        arrow = λ p. arrows;
      }

  -- ---- runs

  agree_rest : (us : List Tok) (t : Tok) (ts vs : List Tok) (c : Config) → runs a us ≡ some c → Known a (us ++ (t ∷ ts)) vs →
      ((d : Config) → runs a (us ++ (t ∷ [])) ≡ some d → Known a ((us ++ (t ∷ [])) ++ ts) vs → run a (some d) ts ≡ run b (some d) ts) →
      (m : Option Config) → step a c t ≡ m → run a m ts ≡ run b m ts
  agree_rest us t ts vs c e k f none q = run_none a ts ∙ sym (run_none b ts)
  agree_rest us t ts vs c e k f (some d) q = f d (one_more a us c t e ∙ q) (subst (λ (x : List Tok). Known a x vs) (sym (append_assoc us (t ∷ []) ts)) k)

  agree : (ts us vs : List Tok) (c : Config) → runs a us ≡ some c → Known a (us ++ ts) vs → run a (some c) ts ≡ run b (some c) ts
  agree [] us vs c e k = refl
  agree (t ∷ ts) us vs c e k =
      agree_rest us t ts vs c e k (λ d p q. agree ts (us ++ (t ∷ [])) vs d p q) (step a c t) refl
      ∙ ap (λ (m : Option Config). run b m ts) (step_same a b c t (known_forms us t ts vs c e k))

  -- tokens with no newer form are read alike
  pub alike : (ts vs : List Tok) → Known a ts vs → runs a ts ≡ runs b ts
  alike ts vs k = agree ts [] vs (want []) refl k

  -- ---- what the definitions of texts, wrong places, places for a value and newer forms have of it

  pub sentence_alike : (ts vs : List Tok) → Known a ts vs → Sentence a ts → Sentence b ts
  sentence_alike ts vs k s = accepts b ts s.tree (sym (alike ts vs k) ∙ sentence_runs a ts s)

  pub sentence_alike_back : (ts vs : List Tok) → Known a ts vs → Sentence b ts → Sentence a ts
  sentence_alike_back ts vs k s = accepts a ts s.tree (alike ts vs k ∙ sentence_runs b ts s)

  pub wrong_alike : (us : List Tok) (t : Tok) (vs : List Tok) → Known a (us ++ (t ∷ [])) vs → Wrong a us t ↔ Wrong b us t
  wrong_alike us t vs k =
      (λ w. runs_wrong b us t (sym (alike _ vs k) ∙ wrong_runs a us t w), λ w. runs_wrong a us t (alike _ vs k ∙ wrong_runs b us t w))

  pub place_alike : (us vs : List Tok) (s : Span) → Known a us vs → ForValue a us s ↔ ForValue b us s
  place_alike us vs s k = (
    λ p. let w = place_runs a us s p in wants_value b us (wants w.0) (sym (alike us vs k) ∙ w.1) s,
    λ p. let w = place_runs b us s p in wants_value a us (wants w.0) (alike us vs k ∙ w.1) s,
  )

  -- what the higher level lacks the lower one lacks
  beyond_below : {ts : List Tok} → Beyond b ts → Beyond a ts
  beyond_below (newer_head {h = h} e) = newer_head (lacks (head_within h) e)
  beyond_below (newer_bracket e) = newer_bracket (lacks (within.has_too intervals) e)
  beyond_below later_literal = later_literal

  pub newer_below : (us : List Tok) (t : Tok) (ys vs : List Tok) → Known a us vs → Newer b us t ys → Newer a us t ys
  newer_below us t ys vs k n = record { beyond = beyond_below n.beyond; place = (place_alike us vs t.at k).1 n.place }

  -- every text of the lower level is one of the higher
  pub sentence_below : (ts : List Tok) → Sentence a ts → Sentence b ts
  sentence_below ts s = sentence_alike ts [] (sentence_known a ts s) s

-- levels 1 and 2 are such levels
pub one_within_two : level1 Within level2
one_within_two = record { has_too = has }
  where
    has : (f : Feature) → level1 f ≡ true → level2 f ≡ true
    has arrays e = refl
    has sets e = refl
    has bags e = refl
    has intervals e = refl
    has left_arrows e = refl
