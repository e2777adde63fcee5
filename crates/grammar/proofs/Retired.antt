-- The backward arrow, at a level that has it and at the same without it: a row of tokens without it is judged alike by both, and at the
-- level without it no row has it. Assumes nothing.
use mathlib.Core.Path.{◌≡◌, refl, sym, ap, subst, ◌∙◌}
use mathlib.Core.Bool.{true, false≢true}
use mathlib.Core.List.{List, [], ◌∷◌, ◌++◌}
use mathlib.Core.Logic.{◌↔◌}
use mathlib.Core.Option.{Option, none, some}
use Prim.Native.Nat.{ℕ}
use native.Mathlib.Omega.{arith}
use Rattle.rules.specs.Every.{Every, none, also}
use Rattle.rules.proofs.Every.{every_map}
use Rattle.lexicon.specs.declared.Head.{Head}
use Rattle.grammar.specs.Tokens
use Rattle.grammar.specs.Tokens.{Span, Tok, tok, Class}
use Rattle.grammar.specs.Tree.{Value, Style, leftward}
use Rattle.grammar.specs.Yield.{yield_value}
use Rattle.grammar.specs.Level.{Level, Feature, arrays, sets, bags, intervals, left_arrows, arrowless, ◌Within◌, has_head, keeps}
use Rattle.grammar.specs.Place.{Wrong}
use Rattle.grammar.specs.Nodes.{that_before, table}
use Rattle.grammar.proofs.Frames.{Config, Stack, Front, Curly, lot_curly, counted_curly, RoundFrame, opened, pair_colon, pair_arrow, in_tuple, attribute_name, CurlyFrame, member_joined, Frame, in_round, in_square, want, have, want_text, want_curly, want_count, have_item, want_close}
use Rattle.grammar.proofs.Machine.{lead_mark, arrow_round, arrow_in, behind_mark, step, advance, run}
use Rattle.grammar.proofs.Complete.{accepted}
use Rattle.grammar.proofs.Accepts.{run_none, reached}
use Rattle.grammar.proofs.Viable.{wrong_runs, runs_wrong}
use Rattle.grammar.proofs.SameSteps.{step_same}
use Rattle.grammar.proofs.Nodes.{Told, table_made}

-- the token is not the backward arrow
abbrev pub NoArrow : Tok → Type 0
NoArrow t = t.class ≡ Tokens.mark Tokens.left_arrow → ⊥

pub arrowless_within : (l : Level) → arrowless l Within l
arrowless_within l = record { has_too = less }
  where
    less : (f : Feature) → arrowless l f ≡ true → l f ≡ true
    less arrays e = e
    less sets e = e
    less bags e = e
    less intervals e = e
    less left_arrows e = absurd (false≢true e)

module _ (l : Level) where
  -- ---- a row without the arrow

  head_same : (h : Head) → has_head l h ≡ has_head (arrowless l) h
  head_same Head.Array = refl
  head_same Head.Set = refl
  head_same Head.Bag = refl
  head_same Head.Mix = refl
  head_same Head.IntervalSet = refl
  head_same Head.IntervalBag = refl
  head_same Head.TupleArray = refl
  head_same Head.Relation = refl
  head_same Head.TupleBag = refl
  head_same Head.Article = refl
  head_same Head.Excuse = refl
  head_same Head.Heading = refl
  head_same Head.Renaming = refl

  advance_same : (m : Option Config) (t : Tok) → NoArrow t → advance l m t ≡ advance (arrowless l) m t
  advance_same none t n = refl
  advance_same (some c) t n =
      step_same l (arrowless l) c t (record { bracket = λ K e g. refl; head = λ h s o K e g. head_same h; arrow = λ e. absurd (n e) })

  run_same : (m : Option Config) {ts : List Tok} → Every NoArrow ts → run l m ts ≡ run (arrowless l) m ts
  run_same m none = refl
  run_same m (also {x = t} {xs = ts} n a) =
      ap (λ (x : Option Config). run l x ts) (advance_same m t n) ∙ run_same (advance (arrowless l) m t) a

  -- 6 is judged alike
  pub wrong_same : (ts : List Tok) (t : Tok) → Every NoArrow (ts ++ (t ∷ [])) → Wrong l ts t ↔ Wrong (arrowless l) ts t
  wrong_same ts t a =
      let same = run_same (some (want [])) a in
      (λ w. runs_wrong (arrowless l) ts t (sym same ∙ wrong_runs l ts t w), λ w. runs_wrong l ts t (same ∙ wrong_runs (arrowless l) ts t w))

  -- a derivation whose tokens are without it has the other forms only
  pub keeps_arrowless : (v : Value) → Every NoArrow (yield_value v []) → keeps l v ≡ true → keeps (arrowless l) v ≡ true
  keeps_arrowless v a e =
      (reached (arrowless l) (yield_value v []) (have v []) (sym (run_same (some (want [])) a) ∙ accepted l v e)).level

  -- ---- at the level without it no row has it

  lead_none : (f : Frame) (s : Span) (K : Stack) → lead_mark Tokens.left_arrow f s K ≡ none
  lead_none (in_round f) s K = refl
  lead_none (Frame.in_curly f) s K = refl
  lead_none (in_square f) s K = refl

  round_none : (f : RoundFrame) (v : Value) (s : Span) (K : Stack) → arrow_round (arrowless l) f v leftward s K ≡ none
  round_none (opened o) v s K = refl
  round_none (pair_colon o p i) v s K = refl
  round_none (pair_arrow o w b i) v s K = refl
  round_none (in_tuple o f) v s K = refl
  round_none (attribute_name o f n i) v s K = refl

  in_none : {y : Style} (c : Curly y) (f : Front y) (v : Value) (s : Span) (K : Stack) → arrow_in (arrowless l) c f v leftward s K ≡ none
  in_none (lot_curly o) f v s K = refl
  in_none (counted_curly o h t j b) f v s K = refl

  behind_none : (f : Frame) (v : Value) (s : Span) (K : Stack) → behind_mark (arrowless l) Tokens.left_arrow f v s K ≡ none
  behind_none (in_round f) v s K = round_none f v s K
  behind_none (Frame.in_curly (CurlyFrame.in_curly c f)) v s K = in_none c f v s K
  behind_none (Frame.in_curly (member_joined o f w j i)) v s K = refl
  behind_none (in_square f) v s K = refl

  arrow_none : (c : Config) (s : Span) → step (arrowless l) c (tok (Tokens.mark Tokens.left_arrow) s) ≡ none
  arrow_none (want []) s = refl
  arrow_none (want (f ∷ K)) s = lead_none f s K
  arrow_none (have v []) s = refl
  arrow_none (have v (f ∷ K)) s = behind_none f v s K
  arrow_none (want_text n o K) s = refl
  arrow_none (want_curly o h t k K) s = refl
  arrow_none (want_count c f v k K) s = refl
  arrow_none (have_item c f i K) s = refl
  arrow_none (want_close c K) s = refl

  no_some : (c : Config) → none ≡ some c → ⊥
  no_some c e = let z : ◌≡◌ {A = ℕ} 0 1 = cc in omega arith

  run_arrowless : (ts : List Tok) (m : Option Config) (d : Config) → run (arrowless l) m ts ≡ some d → Every NoArrow ts
  run_arrowless [] m d e = none
  run_arrowless (t ∷ ts) none d e = absurd (no_some d (sym (run_none (arrowless l) ts) ∙ e))
  run_arrowless (t ∷ ts) (some c) d e = also arrow (run_arrowless ts (step (arrowless l) c t) d e)
    where
      arrow : NoArrow t
      arrow k =
          let stuck = ap (λ (y : Class). step (arrowless l) c (tok y t.at)) k ∙ arrow_none c t.at in
          no_some d (sym (run_none (arrowless l) ts) ∙ ap (λ (x : Option Config). run (arrowless l) x ts) (sym stuck) ∙ e)

  pub yields_no_arrow : (v : Value) → keeps (arrowless l) v ≡ true → Every NoArrow (yield_value v [])
  yields_no_arrow v e = run_arrowless (yield_value v []) (some (want [])) (have v []) (accepted (arrowless l) v e)

  -- and what it has, the level with it has too
  pub keeps_too : (v : Value) → keeps (arrowless l) v ≡ true → keeps l v ≡ true
  keeps_too v e =
      (reached l (yield_value v []) (have v []) (run_same (some (want [])) (yields_no_arrow v e) ∙ accepted (arrowless l) v e)).level

  -- ---- and no node is a that before its this

  pub no_that_before : (v : Value) → keeps (arrowless l) v ≡ true → Every (λ n. n.role ≡ that_before → ⊥) (table v)
  no_that_before v e = every_map (λ n m b. (subst (Told NoArrow) b m.role_told).1 refl) (table_made NoArrow v (yields_no_arrow v e))
