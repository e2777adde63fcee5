-- Where a reader stands: behind tokens that pass, with the machine's configuration there. A token that the machine takes leads on, and
-- each test that fails is the answer's first fault. Assumes nothing.
use mathlib.Core.Path.{◌≡◌, refl, sym, ◌∙◌}
use mathlib.Core.Bool.{Bool, true, false}
use mathlib.Core.Logic.{inl, inr}
use mathlib.Core.List.{List, [], ◌∷◌, ◌++◌}
use mathlib.Core.Option.{none, some}
use Prim.Native.Nat.{ℕ}
use native.Mathlib.Omega.{arith}
use Rattle.rules.proofs.Bools.{clash}
use Rattle.lexicon.specs.declared.Token as Token
use Rattle.lexicon.specs.declared.Next.TheVariants as Next
use Rattle.lexicon.specs.Front.{Front}
use Rattle.lexicon.specs.Token.{BadPlace, Comes}
use Rattle.grammar.specs.Tokens.{Tok, Class, atom, text, names, round, curly, square, mark, later, class_kind}
use Rattle.grammar.specs.Level.{Level}
use Rattle.grammar.specs.Place.{Wrong, Beyond, newer_head, newer_bracket, later_literal}
use Rattle.grammar.proofs.Frames.{Config, want}
use Rattle.grammar.proofs.Machine.{step, runs}
use Rattle.grammar.proofs.Viable as Viable
use Rattle.grammar.proofs.Viable.{Final, one_more, stuck_wrong, wrong_stuck, Wants, value_wants}
use Rattle.reading.specs.declared.Limits.{Limits}
use Rattle.reading.specs.Tokens.{seen}
use Rattle.reading.specs.Faults.{NewerAt, Retired, TooDeep, of_value, Fault, no_token, wrong_end, at_token, Passed, begun, passed, FirstFault}
use Rattle.reading.proofs.Placed.{at_first}
use Rattle.reading.proofs.Decide.{faultless, no_step}

-- the classes that may begin a newer form
abbrev pub may_begin : Class → Bool
may_begin (atom a) = false
may_begin (text w) = false
may_begin names = false
may_begin round = true
may_begin curly = false
may_begin square = true
may_begin (mark m) = false
may_begin later = true

module _ (limits : Limits) (l : Level) (bytes : List ℕ) where
  pub record Stands (ts : List Tok) (p : ℕ) (c : Config) : Type 0 where
    pub good : Passed limits l bytes ts p
    pub reached : runs l ts ≡ some c

  pub at_front : {p : ℕ} → Front bytes p → Stands [] p (want [])
  at_front f = record { good = begun f; reached = refl }

  -- ---- no newer form

  beyond_class : {t : Tok} {ts : List Tok} → Beyond l (t ∷ ts) → may_begin t.class ≡ true
  beyond_class (newer_head e) = refl
  beyond_class (newer_bracket e) = refl
  beyond_class later_literal = refl

  pub not_by_class : {ts : List Tok} (t : Token.Token) → may_begin (class_kind t.kind) ≡ false → NewerAt l bytes ts t → ⊥
  not_by_class t e n = clash (beyond_class n.newer.beyond) e

  pub not_by_place : {ts : List Tok} {p : ℕ} {c : Config} → Stands ts p c → (Wants c → ⊥) → (t : Token.Token) → NewerAt l bytes ts t → ⊥
  not_by_place {ts} {p} {c} s h t n = h (value_wants l ts c s.reached (seen t).at n.newer.place)

  -- ---- on

  -- a token that the machine takes is in no wrong place
  not_wrong : {ts : List Tok} {p : ℕ} {c d : Config} → Stands ts p c → (t : Token.Token) → step l c (seen t) ≡ some d → Wrong l ts (seen t) → ⊥
  not_wrong {ts} {c = c} {d = d} s t e w = no_step d (sym (wrong_stuck l ts c (seen t) s.reached w) ∙ e)

  pub goes_on_lem : {ts : List Tok} {p : ℕ} {c d : Config} {t : Token.Token} → Stands ts p c → Comes bytes p (Next.Token t) →
      (NewerAt l bytes ts t → ⊥) → step l c (seen t) ≡ some d → (Retired limits t → ⊥) → t.bad ≡ false → (TooDeep limits ts t → ⊥) →
      Stands (ts ++ (seen t ∷ [])) t.end d
  goes_on_lem {ts} {p} {c} {d} {t} s k v e r b h =
      record {
        good = passed s.good k (λ n q f. faultless bytes limits l k (v, ((λ w. not_wrong s t e w), (r, ((λ x. clash x b), (h, tt))))) n q f);
        reached = one_more l ts c (seen t) s.reached ∙ e;
      }

  -- ---- the refusals

  stops : {ts : List Tok} {p n q : ℕ} {c : Config} → Stands ts p c → Fault limits l bytes ts p n q → FirstFault limits l bytes n q
  stops {ts} {p} s f = record { before = ts; from = p; good = s.good; fault = f }

  pub no_token_lem : {ts : List Tok} {p q : ℕ} {c : Config} → Stands ts p c → Comes bytes p (Next.NoToken q) → FirstFault limits l bytes 4 q
  no_token_lem s k = stops s (no_token k)

  pub wrong_place : {ts : List Tok} {p : ℕ} {c : Config} {t : Token.Token} → Stands ts p c → Comes bytes p (Next.Token t) →
      (NewerAt l bytes ts t → ⊥) → step l c (seen t) ≡ none → FirstFault limits l bytes 6 t.first
  wrong_place {ts} {p} {c} {t} s k v e = stops s (at_token k (inr (v, inl (refl, stuck_wrong l ts c (seen t) s.reached e))) (at_first (λ f. omega (arith, f))))

  pub wrong_end_lem : {ts : List Tok} {p q : ℕ} {c : Config} → Stands ts p c → Comes bytes p (Next.End q) → (Final c → ⊥) → FirstFault limits l bytes 6 q
  wrong_end_lem {ts} {p} {q} {c} s k h = stops s (wrong_end k (Viable.wrong_end l ts c s.reached h))

  pub newer_form : {ts : List Tok} {p : ℕ} {c : Config} {t : Token.Token} → Stands ts p c → Comes bytes p (Next.Token t) → NewerAt l bytes ts t → FirstFault limits l bytes 7 t.first
  newer_form s k n = stops s (at_token k (inl (refl, n)) (at_first (λ f. omega (arith, f))))

  pub arrow_retired : {ts : List Tok} {p : ℕ} {c d : Config} {t : Token.Token} → Stands ts p c → Comes bytes p (Next.Token t) →
      (NewerAt l bytes ts t → ⊥) → step l c (seen t) ≡ some d → Retired limits t → FirstFault limits l bytes 15 t.first
  arrow_retired {t = t} s k v e r = stops s (at_token k (inr (v, inr ((λ w. not_wrong s t e w), inl (refl, r)))) (at_first (λ f. omega (arith, f))))

  pub bad_value : {ts : List Tok} {p q : ℕ} {c d : Config} {t : Token.Token} → Stands ts p c → Comes bytes p (Next.Token t) →
      (NewerAt l bytes ts t → ⊥) → step l c (seen t) ≡ some d → (Retired limits t → ⊥) → t.bad ≡ true →
      BadPlace bytes t.kind t.first t.end q → FirstFault limits l bytes 5 q
  bad_value {t = t} s k v e r b o = stops s (at_token k (inr (v, inr ((λ w. not_wrong s t e w), inr (r, inl (refl, b))))) (of_value refl o))

  pub too_deep : {ts : List Tok} {p : ℕ} {c d : Config} {t : Token.Token} → Stands ts p c → Comes bytes p (Next.Token t) →
      (NewerAt l bytes ts t → ⊥) → step l c (seen t) ≡ some d → (Retired limits t → ⊥) → t.bad ≡ false → TooDeep limits ts t →
      FirstFault limits l bytes 11 t.first
  too_deep {t = t} s k v e r b h = stops s (at_token k (inr (v, inr ((λ w. not_wrong s t e w), inr (r, inr ((λ x. clash x b), inl (refl, h)))))) (at_first (λ f. omega (arith, f))))
