-- The backward arrow retired: but for 15 an answer is that of the old rules, and 15 is given exactly for the first arrow that they allow.
-- Assumes nothing.
use mathlib.Core.Path.{◌≡◌, refl, sym, ap, subst, ◌∙◌}
use mathlib.Core.Bool.{false, true}
use mathlib.Core.Logic.{◌⊎◌, inl, inr, ◌↔◌}
use mathlib.Core.List.{List, [], ◌∷◌}
use mathlib.Core.Option.{Option}
use Prim.Native.Nat.{ℕ, ◌+◌, ◌≤◌, ◌<◌}
use native.Mathlib.Omega.{arith}
use lib.ListN.{length}
use Rattle.rules.specs.Class.{codes}
use Rattle.rules.specs.Every.{Every, none, also}
use Rattle.rules.specs.Plain.{between}
use Rattle.rules.proofs.Plain.{plain, row_matches}
use Rattle.rules.proofs.Matches.{row_end}
use Rattle.rules.proofs.Bools.{clash}
use Rattle.rules.proofs.Every.{every_first, every_append}
use Rattle.lexicon.specs.declared.Sign.TheVariants as Sign
use Rattle.lexicon.specs.declared.Kind.{Kind}
use Rattle.lexicon.specs.declared.Token as Token
use Rattle.lexicon.specs.declared.Next.TheVariants as Next
use Rattle.lexicon.specs.Utf8.{WellFormed}
use Rattle.lexicon.specs.Front.{Front}
use Rattle.lexicon.specs.Token.{Is, Comes}
use Rattle.lexicon.proofs.Unique.{token_forward}
use Rattle.lexicon.proofs.Determined.{formed_or_bad}
use Rattle.grammar.specs.Tokens.{Tok, Class}
use Rattle.grammar.specs.Tree.{Value}
use Rattle.grammar.specs.Level.{Level}
use Rattle.grammar.specs.Place.{Wrong}
use Rattle.reading.specs.declared.Answer.{Answer}
use Rattle.reading.specs.declared.Limits.{Limits}
use Rattle.reading.specs.declared.Rules.{Rules}
use Rattle.reading.specs.Sizes.{with_arrow}
use Rattle.reading.specs.Tokens.{seen, Follow, open_behind, opened}
use Rattle.reading.specs.Tests.{test, First}
use Rattle.reading.specs.Faults.{NewerAt, Retired, TooDeep, tests, Fault, no_token, wrong_end, at_token, Passed, begun, passed, FirstFault}
use Rattle.reading.specs.Answers.{LevelOf, Accepted, Reading, Answers, no_level, too_long, not_utf8, faulty, no_room, accepted}
use Rattle.reading.specs.Arrow.{IsArrow, NoArrows, FirstArrow, Retirement}
use Rattle.reading.proofs.Placed.{placed_first, at_first, no_test_holds}
use Rattle.reading.proofs.Tests.{None, no_test, behind as others, no_number, Alike, alike_back, first_alike, none_alike}
use Rattle.reading.proofs.Rows.{Order, equal, less, more, order, one_row, row_beyond, every_part}
use Rattle.reading.proofs.First.{follows, start, went, fault_later}
use Rattle.reading.proofs.Decide.{arrow_read, faultless}
use Rattle.reading.proofs.Stands.{may_begin, not_by_class}
use Rattle.reading.proofs.At.{may_be_bad, class_kind_lem, never_bad, open_from_one}
use Rattle.reading.proofs.Unique.{one_level, one_answer, one_reading}

module _ (limits : Limits) (l : Level) (bytes : List ℕ) where
  -- the same, but that the arrow may be read
  abbrev old : Limits
  old = record { depth = limits.depth; arrow = true }

  -- ---- at one token

  deep_old : {ts : List Tok} (t : Token.Token) → TooDeep limits ts t → TooDeep old ts t
  deep_old t d = record { deeper = d.deeper; beyond = d.beyond }

  deep_new : {ts : List Tok} (t : Token.Token) → TooDeep old ts t → TooDeep limits ts t
  deep_new t d = record { deeper = d.deeper; beyond = d.beyond }

  -- the tests differ for a retired arrow only
  alike : (ts : List Tok) (t : Token.Token) → (Retired limits t → ⊥) → Alike (tests limits l bytes ts t) (tests old l bytes ts t)
  alike ts t n = (
    refl,
    (λ x. x),
    (λ x. x),
    (
      refl,
      (λ x. x),
      (λ x. x),
      (
        refl,
        (λ r. absurd (n r)),
        (λ r. absurd (arrow_read t refl r)),
        (refl, (λ x. x), (λ x. x), (refl, deep_old t, deep_new t, tt)),
      ),
    ),
  )

  -- where it may be read, they are as if there were none for it
  pub old_order : (ts : List Tok) (t : Token.Token) (n : ℕ) → limits.arrow ≡ true →
      First (tests limits l bytes ts t) n ↔
      First (test 7 (NewerAt l bytes ts t) ∷ test 6 (Wrong l ts (seen t)) ∷ test 5 (t.bad ≡ true) ∷ test 11 (TooDeep limits ts t) ∷ []) n
  old_order ts t n e = (out, into)
    where
      out : First (tests limits l bytes ts t) n → First (test 7 (NewerAt l bytes ts t) ∷ test 6 (Wrong l ts (seen t)) ∷ test 5 (t.bad ≡ true) ∷ test 11 (TooDeep limits ts t) ∷ []) n
      out (inl x) = inl x
      out (inr (v, inl x)) = inr (v, inl x)
      out (inr (v, inr (w, inl x))) = absurd (arrow_read t e x.1)
      out (inr (v, inr (w, inr (r, x)))) = inr (v, inr (w, x))

      into : First (test 7 (NewerAt l bytes ts t) ∷ test 6 (Wrong l ts (seen t)) ∷ test 5 (t.bad ≡ true) ∷ test 11 (TooDeep limits ts t) ∷ []) n → First (tests limits l bytes ts t) n
      into (inl x) = inl x
      into (inr (v, inl x)) = inr (v, inl x)
      into (inr (v, inr (w, x))) = inr (v, inr (w, inr ((λ r. arrow_read t e r), x)))

  -- ---- tokens that pass

  unfaulted : {ts : List Tok} {p : ℕ} → ((n q : ℕ) → Fault limits l bytes ts p n q → ⊥) → (n q : ℕ) → Fault old l bytes ts p n q → ⊥
  unfaulted k n q (no_token d) = k 4 q (no_token d)
  unfaulted k n q (wrong_end d w) = k 6 q (wrong_end d w)
  unfaulted {ts} k n q (at_token {t = t} d x v) =
      let new = tests limits l bytes ts t in
      let clean : None new = no_test_holds limits l bytes d k in
      no_test (tests old l bytes ts t) n (none_alike new (tests old l bytes ts t) (alike ts t clean.1.1.0) clean) x

  passed_old : {p : ℕ} {ts : List Tok} → Passed limits l bytes ts p → Passed old l bytes ts p
  passed_old (begun f) = begun f
  passed_old (passed g c k) = passed (passed_old g) c (unfaulted k)

  -- a token that passes is no retired arrow
  not_retired : {ts : List Tok} {p : ℕ} (t : Token.Token) → Comes bytes p (Next.Token t) → ((n q : ℕ) → Fault limits l bytes ts p n q → ⊥) → Retired limits t → ⊥
  not_retired t c k = (no_test_holds limits l bytes c k).1.1.0

  no_arrow_passed : limits.arrow ≡ false → {p : ℕ} {ts : List Tok} → Passed limits l bytes ts p → Every (λ t. IsArrow t → ⊥) ts
  no_arrow_passed e (begun f) = none
  no_arrow_passed e (passed {t = t} g c k) = every_append (no_arrow_passed e g) (also (λ a. not_retired t c k (record { retired = e; arrow = a })) none)

  passed_new : {p : ℕ} {ts : List Tok} → Passed old l bytes ts p → Every (λ t. IsArrow t → ⊥) ts → Passed limits l bytes ts p
  passed_new (begun f) a = begun f
  passed_new (passed {ts = ts} {t = t} g c k) a =
      let b = every_part ts (seen t ∷ []) a in
      let before = tests old l bytes ts t in
      let now = tests limits l bytes ts t in
      let clean : None before = no_test_holds old l bytes c k in
      passed (passed_new g b.0) c
      (λ n q f. faultless bytes limits l c (none_alike before now (alike_back now before (alike ts t (λ r. every_first b.1 r.arrow))) clean) n q f)

  -- ---- the first fault

  fault_old : {ts : List Tok} {p n q : ℕ} → (n ≡ 15 → ⊥) → Fault limits l bytes ts p n q → Fault old l bytes ts p n q
  fault_old h (no_token d) = no_token d
  fault_old h (wrong_end d w) = wrong_end d w
  fault_old h (at_token d (inl x) u) = at_token d (inl x) u
  fault_old h (at_token d (inr (v, inl x)) u) = at_token d (inr (v, inl x)) u
  fault_old h (at_token d (inr (v, inr (w, inl x))) u) = absurd (h x.0)
  fault_old {ts} {n = n} h (at_token {t = t} d (inr (v, inr (w, inr (r, x)))) u) =
      at_token d (first_alike (tests limits l bytes ts t) (tests old l bytes ts t) n (alike ts t r) (inr (v, inr (w, inr (r, x))))) u

  first_old : {n q : ℕ} → (n ≡ 15 → ⊥) → FirstFault limits l bytes n q → FirstFault old l bytes n q
  first_old h f = record { before = f.before; from = f.from; good = passed_old f.good; fault = fault_old h f.fault }

  pub accepted_old : {v : Value} → Accepted limits bytes l v → Accepted old bytes l v
  accepted_old a =
      let x = a.passed in
      record { of_level = a.of_level; passed = record { from = x.from; good = passed_old x.good; at_end = x.at_end; ends = x.ends } }

  -- ---- 15

  -- it is given for an arrow only, in a right place
  record Fifteen (ts : List Tok) (p q : ℕ) : Type 0 where
    token : Token.Token
    comes : Comes bytes p (Next.Token token)
    in_place : Wrong l ts (seen token) → ⊥
    retired : Retired limits token
    place_is : q ≡ token.first

  fifteen : {ts : List Tok} {p n q : ℕ} → n ≡ 15 → Fault limits l bytes ts p n q → Fifteen ts p q
  fifteen e (no_token d) = absurd (omega (arith, e))
  fifteen e (wrong_end d w) = absurd (omega (arith, e))
  fifteen e (at_token d (inl x) u) = absurd (omega (arith, e, x.0))
  fifteen e (at_token d (inr (v, inl x)) u) = absurd (omega (arith, e, x.0))
  fifteen e (at_token {t = t} d (inr (v, inr (w, inl x))) u) =
      record { token = t; comes = d; in_place = w; retired = x.1; place_is = placed_first (λ f. omega (arith, e, f)) u }
  fifteen {ts} {n = n} e (at_token {t = t} d (inr (v, inr (w, inr (r, x)))) u) =
      let rest = others (others (others (tests limits l bytes ts t))) in
      absurd (no_number rest 15 refl (subst (First rest) e x))

  first_arrow : {n q : ℕ} → n ≡ 15 → FirstFault limits l bytes n q → FirstArrow old l bytes q
  first_arrow e f =
      let x = fifteen e f.fault in
      record {
        before = f.before;
        from = f.from;
        good = passed_old f.good;
        first = no_arrow_passed x.retired.retired f.good;
        token = x.token;
        comes = x.comes;
        arrow = x.retired.arrow;
        in_place = x.in_place;
        place_is = x.place_is;
      }

  -- an arrow begins no newer form
  known : {ts : List Tok} (t : Token.Token) → IsArrow (seen t) → NewerAt l bytes ts t → ⊥
  known t a n = not_by_class limits l bytes t (ap may_begin a) n

  first_fifteen : {q : ℕ} → limits.arrow ≡ false → FirstArrow old l bytes q → FirstFault limits l bytes 15 q
  first_fifteen {q} e x =
      subst (λ (p : ℕ). FirstFault limits l bytes 15 p) (sym x.place_is)
      (record {
        before = x.before;
        from = x.from;
        good = passed_new x.good x.first;
        fault = at_token x.comes (inr (known x.token x.arrow, inr (x.in_place, inl (refl, record { retired = e; arrow = x.arrow })))) (at_first (λ f. omega (arith, f)));
      })

  -- ---- behind it

  -- by the old rules the arrow passes
  taken : {ts : List Tok} {p : ℕ} (t : Token.Token) → Comes bytes p (Next.Token t) → IsArrow (seen t) → (Wrong l ts (seen t) → ⊥) →
      (n q : ℕ) → Fault old l bytes ts p n q → ⊥
  taken {ts} {p} t c a w =
      faultless bytes old l c
      (known t a, (w, ((λ r. arrow_read t refl r), ((λ b. clash b sound), ((λ d. flat d), tt)))))
    where
      sound : t.bad ≡ false
      sound = never_bad old l bytes t c (ap may_be_bad (class_kind_lem t.kind a))

      flat : TooDeep old ts t → ⊥
      flat d = omega (arith, d.deeper, open_from_one 0 ts (seen t), ap (λ (y : Class). open_behind y (opened ts)) a)

  later : {m p q : ℕ} → FirstArrow old l bytes p → FirstFault old l bytes m q → p < q
  later {m} {p} {q} x g = by (order (length g.before) (length x.before))
    where
      at : (s : ℕ) × Front bytes s
      at = start bytes old l x.good

      xs : Follow bytes at.0 x.before x.from
      xs = follows bytes old l at.1 x.good

      gs : Follow bytes at.0 g.before g.from
      gs = follows bytes old l at.1 g.good

      by : Order (length g.before) (length x.before) → p < q
      by (equal h) =
          let o = one_row bytes gs xs h in
          absurd (taken x.token x.comes x.arrow x.in_place m q
          (subst (λ (i : ℕ). Fault old l bytes x.before i m q) o.1 (subst (λ (ts : List Tok). Fault old l bytes ts g.from m q) o.0 g.fault)))
      by (less h) = absurd ((went bytes old l at.1 gs x.good h).sound m q g.fault)
      by (more h) =
          let behind : x.token.first < g.from = omega (arith, token_forward bytes x.comes.2, row_beyond bytes xs x.comes gs h) in
          omega (arith, x.place_is, fault_later bytes old l behind x.comes.1 g.fault)

-- ---- the answers

module _ (rules : Rules) (bytes : List ℕ) where
  -- an answer other than 15 is that of the old rules, with the same derivation
  pub reading_old : {room number : ℕ} {r : Answer} {t : Option Value} → Reading rules bytes room number r t → (r.number ≡ 15 → ⊥) → Reading (with_arrow rules) bytes room number r t
  reading_old (no_level f) h = no_level f
  reading_old (too_long l g) h = too_long l g
  reading_old (not_utf8 l g w) h = not_utf8 l g w
  reading_old (faulty {l = a} l g w d) h = faulty l g w (first_old rules.limits a bytes h d)
  reading_old (no_room {l = a} l g w x k) h = no_room l g w (accepted_old rules.limits a bytes x) k
  reading_old (accepted {l = a} l g w x k) h = accepted l g w (accepted_old rules.limits a bytes x) k

  -- behind answer 15 stands a text that came as far as its tokens
  record Named (number : ℕ) (r : Answer) : Type 0 where
    level : Level
    level_is : LevelOf number level
    fits : length bytes ≤ rules.text
    formed : WellFormed bytes
    fault : FirstFault rules.limits level bytes r.number r.place

  behind : {room number : ℕ} {r : Answer} {t : Option Value} → Reading rules bytes room number r t → r.number ≡ 15 → Named number r
  behind (no_level f) h = absurd (omega (arith, h))
  behind (too_long l g) h = absurd (omega (arith, h))
  behind (not_utf8 l g w) h = absurd (omega (arith, h))
  behind (faulty {l = a} l g w d) h = record { level = a; level_is = l; fits = g; formed = w; fault = d }
  behind (no_room l g w x k) h = absurd (omega (arith, h))
  behind (accepted l g w x k) h = absurd (omega (arith, h))

  outcome : {room number : ℕ} {r s : Answer} {u : Option Value} (x : Named number r) → FirstArrow (with_arrow rules).limits x.level bytes r.place →
      Reading (with_arrow rules) bytes room number s u → (s.number ≡ 0) ⊎ (r.place < s.place)
  outcome x a (no_level f) = absurd (f x.level x.level_is)
  outcome x a (too_long l g) = absurd (omega (arith, g, x.fits))
  outcome x a (not_utf8 l g w) = absurd (formed_or_bad bytes x.formed w)
  outcome x a (faulty {n = k} {p = p} l g w d) =
      inr (later rules.limits x.level bytes a (subst (λ (y : Level). FirstFault (with_arrow rules).limits y bytes k p) (one_level l x.level_is) d))
  outcome x a (no_room l g w y k) = inr (omega (arith, a.place_is, token_forward bytes a.comes.2, a.comes.1))
  outcome x a (accepted l g w y k) = inl refl

  -- 02, request 6: of every text, read by the old rules and by today's
  pub retirement : (lent : List ℕ) {number : ℕ} {r s : Answer} {t u : List ℕ} → Answers (with_arrow rules) bytes lent number r t → Answers rules bytes lent number s u →
      Retirement rules bytes number r t s u
  retirement lent {number} {r} {s} x y =
      record {
        alike = λ h. one_answer (with_arrow rules) bytes lent x (record { tree = y.tree; reading = reading_old y.reading h; left_is = y.left_is });
        named = λ e. let z = behind y.reading e in (z.level, z.level_is, arrow z e);
        later = λ e. let z = behind y.reading e in outcome z (arrow z e) x.reading;
        given = λ e l g w a. (one_reading rules bytes y.reading (faulty l g w (first_fifteen rules.limits _ bytes e a))).0;
      }
    where
      arrow : (z : Named number s) → s.number ≡ 15 → FirstArrow (with_arrow rules).limits z.level bytes s.place
      arrow z e = first_arrow rules.limits z.level bytes e z.fault

  -- by the old rules 15 is never given
  pub old_fifteen : rules.limits.arrow ≡ true → {room number : ℕ} {r : Answer} {t : Option Value} → Reading rules bytes room number r t → r.number ≡ 15 → ⊥
  old_fifteen a y e =
      let z = behind y e in
      let f = fifteen rules.limits z.level bytes e z.fault.fault in
      arrow_read f.token a f.retired

  -- a text without an arrow is not refused with 15
  pub never_fifteen : {room number : ℕ} {r : Answer} {t : Option Value} → NoArrows bytes → Reading rules bytes room number r t → r.number ≡ 15 → ⊥
  never_fifteen a y e =
      let z = behind y e in
      let f = first_arrow rules.limits z.level bytes e z.fault in
      let at = start bytes (with_arrow rules).limits z.level f.good in
      a.none at.1 (follows bytes (with_arrow rules).limits z.level at.1 f.good) f.comes f.arrow

-- an arrow is these two bytes
pub no_such_bytes : (bytes : List ℕ) → ((i : ℕ) → between bytes i (i + 2) ≡ codes "<-" → ⊥) → NoArrows bytes
no_such_bytes bytes h = record { none = λ {start} {p} {before} {t} f g c a. by t c a }
  where
    by : {p : ℕ} (t : Token.Token) → Comes bytes p (Next.Token t) → IsArrow (seen t) → ⊥
    by t c a =
        let is : Is bytes (Kind.Symbol Sign.ArrowLeft) t.first t.end = subst (λ (k : Kind). Is bytes k t.first t.end) (class_kind_lem t.kind a) c.2 in
        let takes = is.told.takes in
        h t.first (ap (between bytes t.first) (sym (row_end (codes "<-") takes)) ∙ row_matches (codes "<-") (plain bytes takes))
