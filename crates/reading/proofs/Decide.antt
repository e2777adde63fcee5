-- What stands at a place behind tokens that pass is decided: a fault, the end of a text of the level, or a token that passes.
-- Assumes nothing.
use mathlib.Core.Path.{◌≡◌, refl, sym, ap, subst, ◌∙◌}
use mathlib.Core.Bool.{Bool, true, false, false≢true}
use mathlib.Core.Logic.{◌⊎◌, inl, inr}
use mathlib.Core.List.{List, [], ◌∷◌, ◌++◌}
use mathlib.Core.Option.{Option, none, some}
use Prim.Native.Nat.{ℕ, ◌<◌}
use native.Mathlib.Omega.{arith}
use Rattle.rules.proofs.Bools.{clash}
use Rattle.lexicon.specs.declared.Token as Token
use Rattle.lexicon.specs.declared.Next.{Next}
use Rattle.lexicon.specs.Token.{Comes}
use Rattle.grammar.specs.Tokens
use Rattle.grammar.specs.Tokens.{Mark, Class, Tok}
use Rattle.grammar.specs.Level.{Level}
use Rattle.grammar.specs.Place.{Sentence, Wrong}
use Rattle.grammar.proofs.Frames.{Config, want, have, want_text, want_curly, want_count, have_item, want_close}
use Rattle.grammar.proofs.Machine.{step, runs}
use Rattle.grammar.proofs.Viable as Viable
use Rattle.grammar.proofs.Viable.{Final, final, one_more, stuck_wrong, wrong_stuck, final_sentence}
use Rattle.grammar.proofs.FirstNewer.{head_next, is_newer, newer_holds, holds_newer, newer_further}
use Rattle.reading.specs.declared.Limits.{Limits}
use Rattle.reading.specs.Tokens.{seen, Follow, nothing, next, opened}
use Rattle.reading.specs.Faults.{NewerAt, Retired, TooDeep, tests, Fault, no_token, wrong_end, at_token}
use Rattle.reading.specs.Tests.{First}
use Rattle.reading.proofs.Placed.{Places, placed}
use Rattle.reading.proofs.Tests.{None, no_test, Each, first_or_none}
use Rattle.reading.proofs.Rows.{Order, equal, less, more, order, pick, no_end, no_none}

-- ---- the end of a text

abbrev pub whole : Config → Bool
whole (want K) = false
whole (have v []) = true
whole (have v (f ∷ K)) = false
whole (want_text n o K) = false
whole (want_curly o h s k K) = false
whole (want_count c f v k K) = false
whole (have_item c f i K) = false
whole (want_close c K) = false

pub final_whole : {c : Config} → Final c → whole c ≡ true
final_whole (final v) = refl

whole_final : (c : Config) → whole c ≡ true → Final c
whole_final (want K) e = absurd (false≢true e)
whole_final (have v []) e = final v
whole_final (have v (f ∷ K)) e = absurd (false≢true e)
whole_final (want_text n o K) e = absurd (false≢true e)
whole_final (want_curly o h s k K) e = absurd (false≢true e)
whole_final (want_count c f v k K) e = absurd (false≢true e)
whole_final (have_item c f i K) e = absurd (false≢true e)
whole_final (want_close c K) e = absurd (false≢true e)

-- ---- the backward arrow

abbrev is_arrow_mark : Mark → Bool
is_arrow_mark Tokens.round_close = false
is_arrow_mark Tokens.curly_close = false
is_arrow_mark Tokens.square_close = false
is_arrow_mark Tokens.comma = false
is_arrow_mark Tokens.colon = false
is_arrow_mark Tokens.right_arrow = false
is_arrow_mark Tokens.left_arrow = true
is_arrow_mark Tokens.dots = false
is_arrow_mark (Tokens.star a b) = false

abbrev pub is_arrow : Class → Bool
is_arrow (Tokens.atom a) = false
is_arrow (Tokens.text w) = false
is_arrow Tokens.names = false
is_arrow Tokens.round = false
is_arrow Tokens.curly = false
is_arrow Tokens.square = false
is_arrow (Tokens.mark m) = is_arrow_mark m
is_arrow Tokens.later = false

arrow_mark_lem : (m : Mark) → is_arrow_mark m ≡ true → m ≡ Tokens.left_arrow
arrow_mark_lem Tokens.round_close e = absurd (false≢true e)
arrow_mark_lem Tokens.curly_close e = absurd (false≢true e)
arrow_mark_lem Tokens.square_close e = absurd (false≢true e)
arrow_mark_lem Tokens.comma e = absurd (false≢true e)
arrow_mark_lem Tokens.colon e = absurd (false≢true e)
arrow_mark_lem Tokens.right_arrow e = absurd (false≢true e)
arrow_mark_lem Tokens.left_arrow e = refl
arrow_mark_lem Tokens.dots e = absurd (false≢true e)
arrow_mark_lem (Tokens.star a b) e = absurd (false≢true e)

pub arrow_class : (c : Class) → is_arrow c ≡ true → c ≡ Tokens.mark Tokens.left_arrow
arrow_class (Tokens.atom a) e = absurd (false≢true e)
arrow_class (Tokens.text w) e = absurd (false≢true e)
arrow_class Tokens.names e = absurd (false≢true e)
arrow_class Tokens.round e = absurd (false≢true e)
arrow_class Tokens.curly e = absurd (false≢true e)
arrow_class Tokens.square e = absurd (false≢true e)
arrow_class (Tokens.mark m) e = ap Tokens.mark (arrow_mark_lem m e)
arrow_class Tokens.later e = absurd (false≢true e)

-- a token that is not the arrow is not retired
pub not_arrow : {limits : Limits} (t : Token.Token) → is_arrow (seen t).class ≡ false → Retired limits t → ⊥
not_arrow t e r = clash (ap is_arrow r.arrow) e

-- and none is where the arrow may be read
pub arrow_read : {limits : Limits} (t : Token.Token) → limits.arrow ≡ true → Retired limits t → ⊥
arrow_read t e r = clash e r.retired

retired_or_not : (limits : Limits) (t : Token.Token) → Retired limits t ⊎ (Retired limits t → ⊥)
retired_or_not limits t = go limits.arrow refl (is_arrow (seen t).class) refl
  where
    go : (b : Bool) → limits.arrow ≡ b → (a : Bool) → is_arrow (seen t).class ≡ a → Retired limits t ⊎ (Retired limits t → ⊥)
    go true e a i = inr λ r. arrow_read t e r
    go false e true i = inl (record { retired = e; arrow = arrow_class (seen t).class i })
    go false e false i = inr λ r. not_arrow t i r

module _ (bytes : List ℕ) (limits : Limits) (l : Level) where
  -- a token that fails no test has no fault
  pub faultless : {ts : List Tok} {p : ℕ} {t : Token.Token} → Comes bytes p (Next.Token t) → None (tests limits l bytes ts t) → (n q : ℕ) → Fault limits l bytes ts p n q → ⊥
  faultless {ts} {p} {t} c x n q (no_token a) = no_none bytes p c a
  faultless {ts} {p} {t} c x n q (wrong_end a w) = no_end bytes p c a
  faultless {ts} {p} {t} c x n q (at_token a f v) = no_test (tests limits l bytes ts t) n x (subst (λ (u : Token.Token). First (tests limits l bytes ts u) n) (pick bytes a c) f)

-- no step is no configuration
pub no_step : (d : Config) → none ≡ some d → ⊥
no_step d x = let z : ◌≡◌ {A = ℕ} 0 1 = cc in omega arith

module _ (bytes : List ℕ) (comes : (p : ℕ) → (r : Next) × Comes bytes p r) (places : Places bytes) (limits : Limits) (l : Level) where
  -- ---- what stands behind a token: two tokens are enough to see a head

  record Ahead (p : ℕ) : Type 0 where
    tokens : List Tok
    end : ℕ
    follow : Follow bytes p tokens end
    most : {ts : List Tok} {q : ℕ} → Follow bytes p ts q → head_next l ts ≡ true → head_next l tokens ≡ true

  -- no two tokens follow
  fewer : {p q : ℕ} {ts : List Tok} → ((t u : Token.Token) → Comes bytes p (Next.Token t) → Comes bytes t.end (Next.Token u) → ⊥) → Follow bytes p ts q → head_next l ts ≡ true → ⊥
  fewer f nothing e = false≢true e
  fewer f (next c nothing) e = false≢true e
  fewer f (next {t = t} c (next {t = u} d g)) e = f t u c d

  -- these two follow
  these : {p q : ℕ} {ts : List Tok} (t u : Token.Token) → Comes bytes p (Next.Token t) → Comes bytes t.end (Next.Token u) → Follow bytes p ts q → head_next l ts ≡ true → head_next l (seen t ∷ seen u ∷ []) ≡ true
  these t u a b nothing e = absurd (false≢true e)
  these t u a b (next c nothing) e = absurd (false≢true e)
  these t u a b (next {t = x} c (next {t = y} d g)) e =
      let p : x ≡ t = pick bytes c a in
      let q : y ≡ u = pick bytes (subst (λ (z : Token.Token). Comes bytes z.end (Next.Token y)) p d) b in
      subst (λ (z : Token.Token). head_next l (seen t ∷ seen z ∷ []) ≡ true) q
      (subst (λ (z : Token.Token). head_next l (seen z ∷ seen y ∷ []) ≡ true) p e)

  ahead : (p : ℕ) → Ahead p
  ahead p = first (comes p).0 (comes p).1
    where
      second : (t : Token.Token) → Comes bytes p (Next.Token t) → (r : Next) → Comes bytes t.end r → Ahead p
      second t a (Next.Token u) b =
          record { tokens = seen t ∷ seen u ∷ []; end = u.end; follow = next a (next b nothing); most = λ g e. these t u a b g e }
      second t a (Next.End q) b =
          record {
            tokens = [];
            end = p;
            follow = nothing;
            most = λ g e. absurd (fewer (λ x y c d. no_end bytes t.end (subst (λ (z : Token.Token). Comes bytes z.end (Next.Token y)) (pick bytes c a) d) b) g e);
          }
      second t a (Next.NoToken q) b =
          record {
            tokens = [];
            end = p;
            follow = nothing;
            most = λ g e. absurd (fewer (λ x y c d. no_none bytes t.end (subst (λ (z : Token.Token). Comes bytes z.end (Next.Token y)) (pick bytes c a) d) b) g e);
          }

      first : (r : Next) → Comes bytes p r → Ahead p
      first (Next.Token t) a = second t a (comes t.end).0 (comes t.end).1
      first (Next.End q) a = record { tokens = []; end = p; follow = nothing; most = λ g e. absurd (fewer (λ x y c d. no_end bytes p c a) g e) }
      first (Next.NoToken q) a = record { tokens = []; end = p; follow = nothing; most = λ g e. absurd (fewer (λ x y c d. no_none bytes p c a) g e) }

  -- ---- the tests at one token

  newer_or_not : (ts : List Tok) (t : Token.Token) → NewerAt l bytes ts t ⊎ (NewerAt l bytes ts t → ⊥)
  newer_or_not ts t = go (ahead t.end)
    where
      go : Ahead t.end → NewerAt l bytes ts t ⊎ (NewerAt l bytes ts t → ⊥)
      go a = by (is_newer l ts (seen t) a.tokens) refl
        where
          by : (b : Bool) → is_newer l ts (seen t) a.tokens ≡ b → NewerAt l bytes ts t ⊎ (NewerAt l bytes ts t → ⊥)
          by true e = inl (record { ahead = a.tokens; end = a.end; follow = a.follow; newer = holds_newer l ts (seen t) a.tokens e })
          by false e =
              inr λ n.
              clash (newer_holds l ts (seen t) a.tokens (newer_further l ts (seen t) n.ahead a.tokens (λ h. a.most n.follow h) n.newer)) e

  deep_or_not : (ts : List Tok) (t : Token.Token) → TooDeep limits ts t ⊎ (TooDeep limits ts t → ⊥)
  deep_or_not ts t = deeper (order (opened ts) (opened (ts ++ (seen t ∷ []))))
    where
      beyond : opened ts < opened (ts ++ (seen t ∷ [])) → Order limits.depth (opened (ts ++ (seen t ∷ []))) → TooDeep limits ts t ⊎ (TooDeep limits ts t → ⊥)
      beyond h (equal e) = inr λ d. omega (arith, e, d.beyond)
      beyond h (less g) = inl (record { deeper = h; beyond = g })
      beyond h (more g) = inr λ d. omega (arith, g, d.beyond)

      deeper : Order (opened ts) (opened (ts ++ (seen t ∷ []))) → TooDeep limits ts t ⊎ (TooDeep limits ts t → ⊥)
      deeper (equal e) = inr λ d. omega (arith, e, d.deeper)
      deeper (less h) = beyond h (order limits.depth (opened (ts ++ (seen t ∷ []))))
      deeper (more h) = inr λ d. omega (arith, h, d.deeper)

  -- ---- the decision

  pub data Decided (ts : List Tok) (p : ℕ) : Type 0 where
    stops : (n q : ℕ) → Fault limits l bytes ts p n q → Decided ts p
    ends : (q : ℕ) → Comes bytes p (Next.End q) → Sentence l ts → Decided ts p
    goes : (t : Token.Token) (d : Config) → Comes bytes p (Next.Token t) → ((n q : ℕ) → Fault limits l bytes ts p n q → ⊥) → runs l (ts ++ (seen t ∷ [])) ≡ some d → Decided ts p

  pub decided : (ts : List Tok) (p : ℕ) (c : Config) → runs l ts ≡ some c → Decided ts p
  decided ts p c e = go (comes p).0 (comes p).1
    where
      wrong_or_not : (t : Token.Token) → (m : Option Config) → step l c (seen t) ≡ m → Wrong l ts (seen t) ⊎ (Wrong l ts (seen t) → ⊥)
      wrong_or_not t none s = inl (stuck_wrong l ts c (seen t) e s)
      wrong_or_not t (some d) s = inr λ w. no_step d (sym (wrong_stuck l ts c (seen t) e w) ∙ s)

      bad_or_not : (b : Bool) → (b ≡ true) ⊎ (b ≡ true → ⊥)
      bad_or_not true = inl refl
      bad_or_not false = inr λ x. false≢true x

      each : (t : Token.Token) → Each (tests limits l bytes ts t)
      each t = (newer_or_not ts t, (wrong_or_not t (step l c (seen t)) refl, (retired_or_not limits t, (bad_or_not t.bad, (deep_or_not ts t, tt)))))

      on : (t : Token.Token) → Comes bytes p (Next.Token t) → None (tests limits l bytes ts t) → (m : Option Config) → step l c (seen t) ≡ m → Decided ts p
      on t a x none s = absurd (x.1.0 (stuck_wrong l ts c (seen t) e s))
      on t a x (some d) s = goes t d a (λ n q f. faultless bytes limits l a x n q f) (one_more l ts c (seen t) e ∙ s)

      tested : (t : Token.Token) → Comes bytes p (Next.Token t) → ((n : ℕ) × First (tests limits l bytes ts t) n) ⊎ None (tests limits l bytes ts t) → Decided ts p
      tested t a (inl f) = let x = placed limits l bytes places a f.1 in stops f.0 x.0 (at_token a f.1 x.1)
      tested t a (inr x) = on t a x (step l c (seen t)) refl

      ended : (q : ℕ) → Comes bytes p (Next.End q) → (b : Bool) → whole c ≡ b → Decided ts p
      ended q a true w = ends q a (final_sentence l ts (whole_final c w) e)
      ended q a false w = stops 6 q (wrong_end a (Viable.wrong_end l ts c e (λ f. clash (final_whole f) w)))

      go : (r : Next) → Comes bytes p r → Decided ts p
      go (Next.Token t) a = tested t a (first_or_none (tests limits l bytes ts t) (each t))
      go (Next.End q) a = ended q a (whole c) refl
      go (Next.NoToken q) a = stops 4 q (no_token a)
