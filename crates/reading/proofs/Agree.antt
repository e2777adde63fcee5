-- Demand 3, for any two levels of which one has the other's forms, and which both have the arrow `<-` or both lack it. Assumes nothing.
use mathlib.Core.Path.{◌≡◌, refl, sym, ap, subst}
use mathlib.Core.Bool.{true}
use mathlib.Core.Logic.{◌⊎◌, inl, inr}
use mathlib.Core.List.{List, [], ◌∷◌, ◌++◌}
use mathlib.Core.Option.{Option}
use Prim.Native.Nat.{ℕ, ◌≤◌, ◌<◌}
use native.Mathlib.Omega.{arith}
use lib.ListN.{length, length-append}
use Rattle.lexicon.specs.declared.Token as Token
use Rattle.lexicon.specs.declared.Next.TheVariants as Next
use Rattle.lexicon.specs.Utf8.{WellFormed}
use Rattle.lexicon.specs.Front.{Front}
use Rattle.lexicon.specs.Token.{Comes}
use Rattle.lexicon.proofs.Unique.{token_forward}
use Rattle.lexicon.proofs.Determined.{formed_or_bad}
use Rattle.grammar.specs.Tokens.{Tok}
use Rattle.grammar.specs.Tree.{Value}
use Rattle.grammar.specs.Yield.{yield_value}
use Rattle.grammar.specs.Level.{Level, level1, level2, left_arrows, keeps, ◌Within◌}
use Rattle.grammar.specs.Place.{Newer}
use Rattle.grammar.proofs.OneTree.{one_tree}
use Rattle.grammar.proofs.Levels.{Known, sentence_alike, sentence_alike_back, wrong_alike, newer_below, one_within_two}
use Rattle.reading.specs.declared.Answer.{Answer}
use Rattle.reading.specs.declared.Limits.{Limits}
use Rattle.reading.specs.declared.Rules.{Rules}
use Rattle.reading.specs.Tokens.{seen, Follow, nothing, next}
use Rattle.reading.specs.Faults.{NewerAt, tests, Fault, no_token, wrong_end, at_token, Passed, begun, passed, FirstFault, AllPassed}
use Rattle.reading.specs.Answers.{LevelOf, first, second, Accepted, Reading, Answers, no_level, too_long, not_utf8, faulty, no_room, accepted}
use Rattle.reading.specs.Agree.{NewerFrom, FirstNewer, Agree}
use Rattle.reading.specs.Tests.{First}
use Rattle.reading.proofs.Tests.{None, no_test, behind as others, no_number, Alike, same, first_alike, none_alike}
use Rattle.reading.proofs.Rows.{Order, equal, less, more, order, pick, comes_forward, one_row, row_beyond, append, split}
use Rattle.reading.proofs.Placed.{placed_first, at_first, no_test_holds}
use Rattle.reading.proofs.First.{follows, start, went, fault_later, fault_there}
use Rattle.reading.proofs.Unique.{one_level, one_answer}

module _ (bytes : List ℕ) (limits : Limits) (a b : Level) (within : a Within b) (arrows : a left_arrows ≡ b left_arrows) where
  -- ---- tokens that pass at the lower level hold none of its newer forms

  known : {s p : ℕ} {ts : List Tok} → Follow bytes s ts p →
      ((xs : List Tok) (m : ℕ) (u : Token.Token) → Follow bytes s xs m → Comes bytes m (Next.Token u) → length xs < length ts → NewerAt a bytes xs u → ⊥) →
      Known a ts []
  known {s} {p} {ts} f k =
      record {
        none = λ xs t ys e n.
            let x = split bytes xs t ys (subst (λ (r : List Tok). Follow bytes s r p) e f) in
            k xs x.at x.token x.before x.comes (omega (arith, ap (λ (r : List Tok). length r) e, length-append xs (t ∷ ys)))
            (record { ahead = ys ++ []; end = p; follow = append bytes x.behind nothing; newer = subst (λ (w : Tok). Newer a xs w (ys ++ [])) (sym x.is) n });
      }

  known_passed : {s p : ℕ} {ts : List Tok} → Front bytes s → Passed limits a bytes ts p → Known a ts []
  known_passed f g = known (follows bytes limits a f g) (λ xs m u x c h n. (went bytes limits a f x g h).sound 7 u.first (at_token c (inl (refl, n)) (at_first (λ e. omega (arith, e)))))

  known_next_lem : {s p : ℕ} {ts : List Tok} {t : Token.Token} → Front bytes s → Passed limits a bytes ts p → Comes bytes p (Next.Token t) →
      (NewerAt a bytes ts t → ⊥) → Known a (ts ++ (seen t ∷ [])) []
  known_next_lem {s} {p} {ts} {t} f g c v =
      known (append bytes (follows bytes limits a f g) (next c nothing)) (λ xs m u x d h n. by xs m u x d h n (order (length xs) (length ts)))
    where
      by : (xs : List Tok) (m : ℕ) (u : Token.Token) → Follow bytes s xs m → Comes bytes m (Next.Token u) → length xs < length (ts ++ (seen t ∷ [])) → NewerAt a bytes xs u → Order (length xs) (length ts) → ⊥
      by xs m u x d h n (equal e) =
          let o = one_row bytes x (follows bytes limits a f g) e in
          let same : u ≡ t = pick bytes (subst (λ (q : ℕ). Comes bytes q (Next.Token u)) o.1 d) c in
          v (subst (NewerAt a bytes ts) same (subst (λ (r : List Tok). NewerAt a bytes r u) o.0 n))
      by xs m u x d h n (less k) = (went bytes limits a f x g k).sound 7 u.first (at_token d (inl (refl, n)) (at_first (λ e. omega (arith, e))))
      by xs m u x d h n (more k) = omega (arith, k, h, length-append ts (seen t ∷ []))

  newer_below_lem : {ts : List Tok} {t : Token.Token} → Known a ts [] → NewerAt b bytes ts t → NewerAt a bytes ts t
  newer_below_lem {ts} {t} k n = record { ahead = n.ahead; end = n.end; follow = n.follow; newer = newer_below a b within arrows ts (seen t) n.ahead [] k n.newer }

  -- ---- so they pass at the higher level

  -- the tests at a token that begins no newer form of the lower level: those behind 7 and 6 know no level
  alike : {s p : ℕ} {ts : List Tok} {t : Token.Token} → Front bytes s → Passed limits a bytes ts p → Comes bytes p (Next.Token t) → (NewerAt a bytes ts t → ⊥) →
      Alike (tests limits a bytes ts t) (tests limits b bytes ts t)
  alike {ts = ts} {t = t} f g d v =
      let w = wrong_alike a b within arrows ts (seen t) [] (known_next_lem f g d v) in
      let known = others (others (tests limits a bytes ts t)) in
      (refl, (λ x. absurd (v x)), (λ x. newer_below_lem (known_passed f g) x), (refl, w.0, w.1, same known))

  higher : {s p : ℕ} {ts : List Tok} → Front bytes s → Passed limits a bytes ts p → ((n q : ℕ) → Fault limits a bytes ts p n q → ⊥) → (n q : ℕ) → Fault limits b bytes ts p n q → ⊥
  higher f g k n q (no_token d) = k 4 q (no_token d)
  higher {ts = ts} f g k n q (wrong_end d w) = k 6 q (wrong_end d (record { none = λ s. w.none (sentence_alike a b within arrows ts [] (known_passed f g) s) }))
  higher {ts = ts} f g k n q (at_token {t = t} d x v) =
      let none : None (tests limits a bytes ts t) = no_test_holds limits a bytes d k in
      no_test (tests limits b bytes ts t) n (none_alike (tests limits a bytes ts t) (tests limits b bytes ts t) (alike f g d none.0) none) x

  pub passed_too : {p : ℕ} {ts : List Tok} → Passed limits a bytes ts p → Passed limits b bytes ts p
  passed_too (begun f) = begun f
  passed_too (passed g c k) = passed (passed_too g) c (higher (start bytes limits a g).1 g k)

  -- ---- and a fault that is no newer form is the higher level's

  fault_too : {s p n q : ℕ} {ts : List Tok} → Front bytes s → Passed limits a bytes ts p → (n ≡ 7 → ⊥) → Fault limits a bytes ts p n q → Fault limits b bytes ts p n q
  fault_too f g h (no_token d) = no_token d
  fault_too {ts = ts} f g h (wrong_end d w) = wrong_end d (record { none = λ s. w.none (sentence_alike_back a b within arrows ts [] (known_passed f g) s) })
  fault_too f g h (at_token d (inl x) v) = absurd (h x.0)
  fault_too {n = n} {ts = ts} f g h (at_token {t = t} d (inr x) v) =
      at_token d (first_alike (tests limits a bytes ts t) (tests limits b bytes ts t) n (alike f g d x.0) (inr x)) v

  pub first_too : {n q : ℕ} → (n ≡ 7 → ⊥) → FirstFault limits a bytes n q → FirstFault limits b bytes n q
  first_too h f =
      record { before = f.before; from = f.from; good = passed_too f.good; fault = fault_too (start bytes limits a f.good).1 f.good h f.fault }

  pub all_too : {ts : List Tok} → AllPassed limits a bytes ts → AllPassed limits b bytes ts
  all_too {ts} x =
      let k = known_passed (start bytes limits a x.good).1 x.good in
      record {
        from = x.from;
        good = passed_too x.good;
        ends = λ w. x.ends (record { none = λ s. w.none (sentence_alike a b within arrows ts [] k s) });
        at_end = x.at_end;
      }

  accepted_too : {v : Value} → Accepted limits bytes a v → Accepted limits bytes b v
  accepted_too {v} x =
      let k = known_passed (start bytes limits a x.passed.good).1 x.passed.good in
      let s = sentence_alike a b within arrows (yield_value v []) [] k (record { tree = v; of_level = x.of_level; yields = refl }) in
      record { of_level = subst (λ (w : Value). keeps b w ≡ true) (one_tree s.tree v s.yields) s.of_level; passed = all_too x.passed }

  -- ---- the newer form

  -- refusal 7 is given for a newer form only
  record NewerFault (ts : List Tok) (p q : ℕ) : Type 0 where
    token : Token.Token
    comes : Comes bytes p (Next.Token token)
    newer : NewerAt a bytes ts token
    place_is : q ≡ token.first

  newer_fault : {ts : List Tok} {p n q : ℕ} → n ≡ 7 → Fault limits a bytes ts p n q → NewerFault ts p q
  newer_fault e (no_token d) = absurd (omega (arith, e))
  newer_fault e (wrong_end d w) = absurd (omega (arith, e))
  newer_fault e (at_token {t = t} d (inl x) v) = record { token = t; comes = d; newer = x.1; place_is = placed_first (λ f. omega (arith, e, f)) v }
  newer_fault {ts} {n = n} e (at_token {t = t} d (inr x) v) =
      absurd (no_number (others (tests limits a bytes ts t)) 7 refl (subst (First (others (tests limits a bytes ts t))) e x.1))

  pub first_newer_lem : {n q : ℕ} → n ≡ 7 → FirstFault limits a bytes n q → FirstNewer a bytes q
  first_newer_lem {n} {q} e f =
      record {
        here = record { start = at.0; front = at.1; before = f.before; from = f.from; row = row; token = x.token; comes = x.comes; newer = x.newer; place_is = x.place_is };
        least = λ y. least y (order (length y.before) (length f.before));
      }
    where
      at : (s : ℕ) × Front bytes s
      at = start bytes limits a f.good

      row : Follow bytes at.0 f.before f.from
      row = follows bytes limits a at.1 f.good

      x : NewerFault f.before f.from q
      x = newer_fault e f.fault

      least : {r : ℕ} (y : NewerFrom a bytes r) → Order (length y.before) (length f.before) → q ≤ r
      least y (equal h) =
          let o = one_row bytes y.row (follows bytes limits a y.front f.good) h in
          let same : y.token ≡ x.token = pick bytes (subst (λ (p : ℕ). Comes bytes p (Next.Token y.token)) o.1 y.comes) x.comes in
          omega (arith, x.place_is, y.place_is, ap (λ (t : Token.Token). t.first) same)
      least y (less h) = absurd ((went bytes limits a y.front y.row f.good h).sound 7 y.token.first (at_token y.comes (inl (refl, y.newer)) (at_first (λ e. omega (arith, e)))))
      least y (more h) =
          omega (
            arith,
            x.place_is,
            y.place_is,
            token_forward bytes x.comes.2,
            comes_forward bytes y.comes,
            row_beyond bytes (follows bytes limits a y.front f.good) x.comes y.row h,
          )

  -- ---- behind it

  pub there_or_later : {n m p q : ℕ} → n ≡ 7 → FirstFault limits a bytes n p → FirstFault limits b bytes m q → p ≤ q
  there_or_later {n} {m} {p} {q} e f g = by (order (length g.before) (length f.before))
    where
      at : (s : ℕ) × Front bytes s
      at = start bytes limits a f.good

      x : NewerFault f.before f.from p
      x = newer_fault e f.fault

      old : Follow bytes at.0 f.before f.from
      old = follows bytes limits a at.1 f.good

      new : Follow bytes at.0 g.before g.from
      new = follows bytes limits b at.1 g.good

      by : Order (length g.before) (length f.before) → p ≤ q
      by (equal h) =
          let o = one_row bytes new old h in
          omega (arith, x.place_is, fault_there bytes limits b x.comes (subst (λ (r : ℕ). Fault limits b bytes g.before r m q) o.1 g.fault))
      by (less h) = absurd ((went bytes limits b at.1 new (passed_too f.good) h).sound m q g.fault)
      by (more h) =
          fault_later bytes limits b (omega (arith, x.place_is, token_forward bytes x.comes.2, row_beyond bytes old x.comes new h))
          (omega (arith, x.place_is, x.comes.1)) g.fault

-- ---- the answers

module _ (bytes : List ℕ) (rules : Rules) (a b : Level) (within : a Within b) (arrows : a left_arrows ≡ b left_arrows) where
  module _ {n m : ℕ} (low : LevelOf n a) (high : LevelOf m b) where
    -- an answer other than 7 is the higher level's too
    answer_too : {room : ℕ} {r : Answer} {t : Option Value} → Reading rules bytes room n r t → (r.number ≡ 7 → ⊥) → Reading rules bytes room m r t
    answer_too (no_level f) h = absurd (f a low)
    answer_too (too_long l g) h = too_long high g
    answer_too (not_utf8 l g w) h = not_utf8 high g w
    answer_too (faulty {n = k} {p = p} l g w d) h = faulty high g w (first_too bytes rules.limits a b within arrows h (subst (λ (x : Level). FirstFault rules.limits x bytes k p) (one_level l low) d))
    answer_too (no_room {v = v} l g w x k) h = no_room high g w (accepted_too bytes rules.limits a b within arrows (subst (λ (y : Level). Accepted rules.limits bytes y v) (one_level l low) x)) k
    answer_too (accepted {v = v} l g w x k) h = accepted high g w (accepted_too bytes rules.limits a b within arrows (subst (λ (y : Level). Accepted rules.limits bytes y v) (one_level l low) x)) k

    -- behind answer 7 stands a text that came as far as its tokens
    record Behind (r : Answer) : Type 0 where
      fits : length bytes ≤ rules.text
      formed : WellFormed bytes
      fault : FirstFault rules.limits a bytes r.number r.place

    behind : {room : ℕ} {r : Answer} {t : Option Value} → Reading rules bytes room n r t → r.number ≡ 7 → Behind r
    behind (no_level f) h = absurd (omega (arith, h))
    behind (too_long l g) h = absurd (omega (arith, h))
    behind (not_utf8 l g w) h = absurd (omega (arith, h))
    behind (faulty {n = k} {p = p} l g w d) h = record { fits = g; formed = w; fault = subst (λ (x : Level). FirstFault rules.limits x bytes k p) (one_level l low) d }
    behind (no_room l g w x k) h = absurd (omega (arith, h))
    behind (accepted l g w x k) h = absurd (omega (arith, h))

    outcome : {room : ℕ} {r s : Answer} {u : Option Value} → r.number ≡ 7 → Behind r → Reading rules bytes room m s u → (s.number ≡ 0) ⊎ (r.place ≤ s.place)
    outcome e x (no_level f) = absurd (f b high)
    outcome e x (too_long l g) = absurd (omega (arith, g, x.fits))
    outcome e x (not_utf8 l g w) = absurd (formed_or_bad bytes x.formed w)
    outcome e x (faulty {n = k} {p = p} l g w d) =
        inr (there_or_later bytes rules.limits a b within arrows e x.fault (subst (λ (y : Level). FirstFault rules.limits y bytes k p) (one_level l high) d))
    outcome e x (no_room l g w y k) =
        let f = newer_fault bytes rules.limits a b within arrows e x.fault.fault in
        inr (omega (arith, f.place_is, f.comes.1))
    outcome e x (accepted l g w y k) = inl refl

    -- two readings of one text at the two levels, with the same words lent
    pub agree : (lent : List ℕ) {r s : Answer} {t u : List ℕ} → Answers rules bytes lent n r t → Answers rules bytes lent m s u → Agree a bytes r t s u
    agree lent x y =
        record {
          alike = λ h. one_answer rules bytes lent (record { tree = x.tree; reading = answer_too x.reading h; left_is = x.left_is }) y;
          first_newer = λ e. first_newer_lem bytes rules.limits a b within arrows e (behind x.reading e).fault;
          there_or_later = λ e. outcome e (behind x.reading e) y.reading;
        }

-- 01's levels 1 and 2
pub levels_agree : (rules : Rules) (bytes lent : List ℕ) {r s : Answer} {t u : List ℕ} →
    Answers rules bytes lent 1 r t → Answers rules bytes lent 2 s u → Agree level1 bytes r t s u
levels_agree rules bytes lent x y = agree bytes rules level1 level2 one_within_two refl first second lent x y
