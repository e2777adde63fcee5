-- The reading of a text, computed: the machine of the grammar over the tokens that come next. What it answers is the answer of the
-- definitions. Assumes nothing.
use mathlib.Core.Path.{◌≡◌, refl, ap, subst}
use mathlib.Core.Bool.{Bool, true, false, ◌&&◌, not, false≢true}
use mathlib.Core.List.{List, [], ◌∷◌, ◌++◌}
use mathlib.Core.Option.{Option, none, some}
use Prim.Native.Nat.{ℕ, zero, suc}
use native.Mathlib.Omega.{arith}
use borrow.Author.Tests.{ltb-true, lt-ltb}
use lib.Dec.{ltb}
use lib.ListN.{length}
use Rattle.rules.proofs.Bools.{and_left, and_right, and_both, not_true, clash}
use Rattle.lexicon.specs.declared.Token as Token
use Rattle.lexicon.specs.declared.Next.{Next}
use Rattle.lexicon.specs.Token.{Comes}
use Rattle.grammar.specs.Tokens.{Span, Tok, tok, Class, atom, text, names, round, curly, square, mark, later, class_kind}
use Rattle.grammar.specs.Tree.{Value}
use Rattle.grammar.specs.Level.{Level}
use Rattle.grammar.proofs.Frames.{Config, want, have, want_text, want_curly, want_count, have_item, want_close}
use Rattle.grammar.proofs.Machine.{step}
use Rattle.grammar.proofs.Viable.{Final, final}
use Rattle.grammar.proofs.FirstNewer.{head_next, is_beyond, is_newer, newer_holds, holds_newer, beyond_holds, holds_beyond}
use Rattle.decisions.proofs.Next.{next_of, next_is}
use Rattle.decisions.proofs.Front.{front_of, front_is}
use Rattle.decisions.proofs.First.{place_of, place_is}
use Rattle.reading.specs.declared.Limits.{Limits}
use Rattle.reading.specs.Tokens.{seen, Follow, nothing, next, opened}
use Rattle.reading.specs.Faults.{NewerAt, Retired, TooDeep, FirstFault}
use Rattle.reading.specs.Answers.{Accepted}
use Rattle.reading.proofs.Rows.{pick, no_end, no_none}
use Rattle.reading.proofs.Decide.{is_arrow, arrow_class}
use Rattle.reading.proofs.Stands.{Stands, at_front, goes_on_lem, no_token_lem, wrong_place, wrong_end_lem, newer_form, arrow_retired, bad_value, too_deep}
use Rattle.reading.proofs.At.{accepted}

-- what is answered, if anything is, has the property
abbrev pub Sound : {A : Type 0} → (A → Type 0) → Option A → Type 0
Sound P none = Unit {0}
Sound P (some x) = P x

-- what a reading comes to: a refusal's number and place, or the derivation
pub data Verdict : Type 0 where
  refused : ℕ → ℕ → Verdict
  holds : Value → Verdict

-- the value of a whole text
abbrev value_of : Config → Option Value
value_of (want K) = none
value_of (have v []) = some v
value_of (have v (f ∷ K)) = none
value_of (want_text n o K) = none
value_of (want_curly o h s k K) = none
value_of (want_count c f v k K) = none
value_of (have_item c f i K) = none
value_of (want_close c K) = none

value_have : (c : Config) → Sound (λ (v : Value). c ≡ have v []) (value_of c)
value_have (want K) = tt
value_have (have v []) = refl
value_have (have v (f ∷ K)) = tt
value_have (want_text n o K) = tt
value_have (want_curly o h s k K) = tt
value_have (want_count c f v k K) = tt
value_have (have_item c f i K) = tt
value_have (want_close c K) = tt

not_final : {c : Config} → value_of c ≡ none → Final c → ⊥
not_final e (final v) = let z : ◌≡◌ {A = ℕ} 0 1 = cc in omega arith

module _ (bytes : List ℕ) (limits : Limits) (l : Level) where
  -- ---- newer forms: behind `(` two tokens are seen, behind another token none need be

  abbrev second_seen : Token.Token → Next → List Tok
  second_seen t (Next.Token u) = seen t ∷ seen u ∷ []
  second_seen t (Next.End q) = []
  second_seen t (Next.NoToken q) = []

  abbrev first_seen : Next → List Tok
  first_seen (Next.Token t) = second_seen t (next_of bytes t.end)
  first_seen (Next.End q) = []
  first_seen (Next.NoToken q) = []

  abbrev ahead_of : Class → ℕ → List Tok
  ahead_of (atom a) p = []
  ahead_of (text w) p = []
  ahead_of names p = []
  ahead_of round p = first_seen (next_of bytes p)
  ahead_of curly p = []
  ahead_of square p = []
  ahead_of (mark m) p = []
  ahead_of later p = []

  -- the tokens stand there, and are enough to see that a token of the class begins a newer form
  record Ahead (k : Class) (p : ℕ) (us : List Tok) : Type 0 where
    end : ℕ
    follow : Follow bytes p us end
    enough : {ts : List Tok} {q : ℕ} (s : Span) → Follow bytes p ts q → is_beyond l (tok k s ∷ ts) ≡ true → is_beyond l (tok k s ∷ us) ≡ true

  -- no two tokens follow
  fewer : {p q : ℕ} {ts : List Tok} → ((t u : Token.Token) → Comes bytes p (Next.Token t) → Comes bytes t.end (Next.Token u) → ⊥) → Follow bytes p ts q → head_next l ts ≡ true → ⊥
  fewer f nothing e = false≢true e
  fewer f (next c nothing) e = false≢true e
  fewer f (next {t = t} c (next {t = u} d g)) e = f t u c d

  -- these two follow
  these : {p q : ℕ} {ts : List Tok} (t u : Token.Token) → Comes bytes p (Next.Token t) → Comes bytes t.end (Next.Token u) → Follow bytes p ts q → head_next l ts ≡ true → head_next l (seen t ∷ seen u ∷ []) ≡ true
  these t u a b nothing e = absurd (false≢true e)
  these t u a b (next c nothing) e = absurd (false≢true e)
  these t u a b (next {t = x} c (next {t = y} d g)) e =
      let p : x ≡ t = pick bytes c a in
      let q : y ≡ u = pick bytes (subst (λ (z : Token.Token). Comes bytes z.end (Next.Token y)) p d) b in
      subst (λ (z : Token.Token). head_next l (seen t ∷ seen z ∷ []) ≡ true) q
      (subst (λ (z : Token.Token). head_next l (seen z ∷ seen y ∷ []) ≡ true) p e)

  none_needed : {k : Class} (p : ℕ) → ((ts : List Tok) (s : Span) → is_beyond l (tok k s ∷ ts) ≡ true → is_beyond l (tok k s ∷ []) ≡ true) → Ahead k p []
  none_needed p f = record { end = p; follow = nothing; enough = λ {ts} s g e. f ts s e }

  second_is : (p : ℕ) (t : Token.Token) → Comes bytes p (Next.Token t) → (r : Next) → Comes bytes t.end r → Ahead round p (second_seen t r)
  second_is p t a (Next.Token u) b = record { end = u.end; follow = next a (next b nothing); enough = λ s g e. these t u a b g e }
  second_is p t a (Next.End q) b =
      record {
        end = p;
        follow = nothing;
        enough = λ s g e. absurd (fewer (λ x y c d. no_end bytes t.end (subst (λ (z : Token.Token). Comes bytes z.end (Next.Token y)) (pick bytes c a) d) b) g e);
      }
  second_is p t a (Next.NoToken q) b =
      record {
        end = p;
        follow = nothing;
        enough = λ s g e. absurd (fewer (λ x y c d. no_none bytes t.end (subst (λ (z : Token.Token). Comes bytes z.end (Next.Token y)) (pick bytes c a) d) b) g e);
      }

  first_is : (p : ℕ) (r : Next) → Comes bytes p r → Ahead round p (first_seen r)
  first_is p (Next.Token t) a = second_is p t a (next_of bytes t.end) (next_is bytes t.end)
  first_is p (Next.End q) a = record { end = p; follow = nothing; enough = λ s g e. absurd (fewer (λ x y c d. no_end bytes p c a) g e) }
  first_is p (Next.NoToken q) a = record { end = p; follow = nothing; enough = λ s g e. absurd (fewer (λ x y c d. no_none bytes p c a) g e) }

  ahead_is : (k : Class) (p : ℕ) → Ahead k p (ahead_of k p)
  ahead_is (atom a) p = none_needed p (λ ts s e. e)
  ahead_is (text w) p = none_needed p (λ ts s e. e)
  ahead_is names p = none_needed p (λ ts s e. e)
  ahead_is round p = first_is p (next_of bytes p) (next_is bytes p)
  ahead_is curly p = none_needed p (λ ts s e. e)
  ahead_is square p = none_needed p (λ ts s e. e)
  ahead_is (mark m) p = none_needed p (λ ts s e. e)
  ahead_is later p = none_needed p (λ ts s e. e)

  newer_at : {ts us : List Tok} {t : Token.Token} → Ahead (class_kind t.kind) t.end us → is_newer l ts (seen t) us ≡ true → NewerAt l bytes ts t
  newer_at {ts} {us} {t} a e = record { ahead = us; end = a.end; follow = a.follow; newer = holds_newer l ts (seen t) us e }

  not_newer : {ts us : List Tok} {t : Token.Token} → Ahead (class_kind t.kind) t.end us → is_newer l ts (seen t) us ≡ false → NewerAt l bytes ts t → ⊥
  not_newer {ts} {us} {t} a e n =
      clash
      (newer_holds l ts (seen t) us
      (record { beyond = holds_beyond l (seen t ∷ us) (a.enough (seen t).at n.follow (beyond_holds l n.newer.beyond)); place = n.newer.place })) e

  -- ---- the backward arrow

  abbrev retires : Token.Token → Bool
  retires t = not limits.arrow && is_arrow (seen t).class

  is_retired : (t : Token.Token) → retires t ≡ true → Retired limits t
  is_retired t e =
      record {
        retired = not_true limits.arrow (and_left (not limits.arrow) (is_arrow (seen t).class) e);
        arrow = arrow_class (seen t).class (and_right (not limits.arrow) (is_arrow (seen t).class) e);
      }

  not_retired : (t : Token.Token) → retires t ≡ false → Retired limits t → ⊥
  not_retired t e r = clash (and_both (not limits.arrow) (is_arrow (seen t).class) (ap not r.retired) (ap is_arrow r.arrow)) e

  -- ---- too many brackets

  abbrev deeper : List Tok → Token.Token → Bool
  deeper ts t = ltb (opened ts) (opened (ts ++ (seen t ∷ []))) && ltb limits.depth (opened (ts ++ (seen t ∷ [])))

  is_deeper : (ts : List Tok) (t : Token.Token) → deeper ts t ≡ true → TooDeep limits ts t
  is_deeper ts t e =
      let n = opened (ts ++ (seen t ∷ [])) in
      record {
        deeper = ltb-true (opened ts) n (and_left (ltb (opened ts) n) (ltb limits.depth n) e);
        beyond = ltb-true limits.depth n (and_right (ltb (opened ts) n) (ltb limits.depth n) e);
      }

  not_deeper : (ts : List Tok) (t : Token.Token) → deeper ts t ≡ false → TooDeep limits ts t → ⊥
  not_deeper ts t e x =
      let n = opened (ts ++ (seen t ∷ [])) in
      clash (and_both (ltb (opened ts) n) (ltb limits.depth n) (lt-ltb (opened ts) n x.deeper) (lt-ltb limits.depth n x.beyond)) e

  -- ---- the tokens from left to right

  -- a token in its place, by whether it is retired, its value is bad and it is one bracket too many; `again` goes on behind it
  abbrev valued : Token.Token → Bool → Bool → Bool → (Unit {0} → Option Verdict) → Option Verdict
  valued t true b d again = some (refused 15 t.first)
  valued t false true d again = some (refused 5 (place_of bytes t.kind t.first t.end))
  valued t false false true again = some (refused 11 t.first)
  valued t false false false again = again tt

  abbrev stepped : List Tok → Token.Token → Option Config → (Config → Option Verdict) → Option Verdict
  stepped ts t none again = some (refused 6 t.first)
  stepped ts t (some d) again = valued t (retires t) t.bad (deeper ts t) (λ u. again d)

  abbrev placed : List Tok → Config → Token.Token → Bool → (Config → Option Verdict) → Option Verdict
  placed ts c t true again = some (refused 7 t.first)
  placed ts c t false again = stepped ts t (step l c (seen t)) again

  abbrev ended : ℕ → Option Value → Verdict
  ended q none = refused 6 q
  ended q (some v) = holds v

  abbrev judged : List Tok → Config → Next → (Token.Token → Config → Option Verdict) → Option Verdict
  judged ts c (Next.Token t) again = placed ts c t (is_newer l ts (seen t) (ahead_of (class_kind t.kind) t.end)) (again t)
  judged ts c (Next.End q) again = some (ended q (value_of c))
  judged ts c (Next.NoToken q) again = some (refused 4 q)

  abbrev onward : ℕ → List Tok → ℕ → Config → Option Verdict
  onward zero ts p c = none
  onward (suc n) ts p c = judged ts c (next_of bytes p) (λ t d. onward n (ts ++ (seen t ∷ [])) t.end d)

  -- what a verdict says
  abbrev pub Right : Verdict → Type 0
  Right (refused n q) = FirstFault limits l bytes n q
  Right (holds v) = Accepted limits bytes l v

  module _ (ts : List Tok) (p : ℕ) (c : Config) (s : Stands limits l bytes ts p c) where
    abbrev Again : (Token.Token → Config → Option Verdict) → Type 0
    Again again = (t : Token.Token) (d : Config) → Stands limits l bytes (ts ++ (seen t ∷ [])) t.end d → Sound Right (again t d)

    ended_is : (q : ℕ) → Comes bytes p (Next.End q) → (m : Option Value) → value_of c ≡ m → Sound (λ (v : Value). c ≡ have v []) m → Right (ended q m)
    ended_is q k none e x = wrong_end_lem limits l bytes s k (λ f. not_final e f)
    ended_is q k (some v) e x =
        (accepted limits l bytes
        (record { tokens = ts; stands = subst (λ (y : Config). Stands limits l bytes ts p y) x s; deep = refl }) q k).0

    module _ (t : Token.Token) (k : Comes bytes p (Next.Token t)) (again : Token.Token → Config → Option Verdict) (go_on : Again again) where
      valued_is : (d : Config) → (NewerAt l bytes ts t → ⊥) → step l c (seen t) ≡ some d → (r a b : Bool) → retires t ≡ r → t.bad ≡ a → deeper ts t ≡ b →
          Sound Right (valued t r a b (λ u. again t d))
      valued_is d n e true a b r x y = arrow_retired limits l bytes s k n e (is_retired t r)
      valued_is d n e false true b r x y =
          bad_value limits l bytes s k n e (not_retired t r) x (place_is bytes t.kind (k.3.true_holds x))
      valued_is d n e false false true r x y = too_deep limits l bytes s k n e (not_retired t r) x (is_deeper ts t y)
      valued_is d n e false false false r x y = go_on t d (goes_on_lem limits l bytes s k n e (not_retired t r) x (λ z. not_deeper ts t y z))

      stepped_is : (NewerAt l bytes ts t → ⊥) → (m : Option Config) → step l c (seen t) ≡ m → Sound Right (stepped ts t m (again t))
      stepped_is n none e = wrong_place limits l bytes s k n e
      stepped_is n (some d) e = valued_is d n e (retires t) t.bad (deeper ts t) refl refl refl

      placed_is : (us : List Tok) → Ahead (class_kind t.kind) t.end us → (b : Bool) → is_newer l ts (seen t) us ≡ b → Sound Right (placed ts c t b (again t))
      placed_is us a true e = newer_form limits l bytes s k (newer_at a e)
      placed_is us a false e = stepped_is (λ n. not_newer a e n) (step l c (seen t)) refl

    judged_is : (r : Next) → Comes bytes p r → (again : Token.Token → Config → Option Verdict) → Again again → Sound Right (judged ts c r again)
    judged_is (Next.Token t) k again g =
        let us = ahead_of (class_kind t.kind) t.end in
        placed_is t k again g us (ahead_is (class_kind t.kind) t.end) (is_newer l ts (seen t) us) refl
    judged_is (Next.End q) k again g = ended_is q k (value_of c) refl (value_have c)
    judged_is (Next.NoToken q) k again g = no_token_lem limits l bytes s k

  onward_is : (n : ℕ) (ts : List Tok) (p : ℕ) (c : Config) → Stands limits l bytes ts p c → Sound Right (onward n ts p c)
  onward_is zero ts p c s = tt
  onward_is (suc n) ts p c s =
      judged_is ts p c s (next_of bytes p) (next_is bytes p) (λ t d. onward n (ts ++ (seen t ∷ [])) t.end d)
      (λ t d x. onward_is n (ts ++ (seen t ∷ [])) t.end d x)

  -- each token takes a byte at least, and the end is one more
  abbrev pub verdict : Option Verdict
  verdict = onward (suc (length bytes)) [] (front_of bytes) (want [])

  pub verdict_is : Sound Right verdict
  verdict_is = onward_is (suc (length bytes)) [] (front_of bytes) (want []) (at_front limits l bytes (front_is bytes))
