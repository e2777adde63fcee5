-- What is accepted, token by token, are exactly the texts that have a derivation, sound literals and the size of brackets. Assumes nothing.
use mathlib.Core.Path.{◌≡◌, refl, sym, ap, subst, ◌∙◌}
use mathlib.Core.Bool.{Bool, true, false}
use mathlib.Core.List.{List, [], ◌∷◌, ◌++◌, append_assoc, append-nil}
use Prim.Native.Nat.{ℕ, ◌≤◌}
use native.Mathlib.Omega.{arith}
use lib.ListN.{length, length-append}
use Rattle.rules.specs.Every.{Every, none, also}
use Rattle.rules.proofs.Every.{every_first}
use Rattle.lexicon.specs.declared.Token as Token
use Rattle.lexicon.specs.declared.Next.TheVariants as Next
use Rattle.lexicon.specs.Front.{Front}
use Rattle.lexicon.specs.Token.{Comes}
use Rattle.lexicon.proofs.Determined.{one_front}
use Rattle.grammar.specs.Tokens.{Tok}
use Rattle.grammar.specs.Tree.{Value}
use Rattle.grammar.specs.Yield.{yield_value}
use Rattle.grammar.specs.Level.{Level, keeps}
use Rattle.grammar.specs.Place.{Begins, Wrong}
use Rattle.grammar.proofs.NewerForms.{newer_begins}
use Rattle.grammar.proofs.Retired.{NoArrow, keeps_arrowless, yields_no_arrow, keeps_too}
use Rattle.reading.specs.declared.Limits.{Limits}
use Rattle.reading.specs.Tokens.{seen, Follow, nothing, next, opened}
use Rattle.reading.specs.Faults.{NewerAt, Retired, TooDeep, tests, Fault, Passed, begun, passed, AllPassed}
use Rattle.reading.specs.Derived.{readable, allowed, Derived}
use Rattle.reading.specs.Answers.{Accepted}
use Rattle.reading.specs.Arrow.{IsArrow, NoArrows}
use Rattle.reading.proofs.Placed.{no_test_holds}
use Rattle.reading.proofs.Tests.{None}
use Rattle.reading.proofs.Rows.{Order, equal, less, more, order, pick, no_end, append, one_row, every_part}
use Rattle.reading.proofs.First.{follows, start, went}
use Rattle.reading.proofs.Decide.{faultless}
use Rattle.reading.proofs.Unique.{one_tree_lem}

-- ---- rows

module _ (bytes : List ℕ) where
  -- the rows of a text are beginnings of the one that reaches its end
  within : {p q r n : ℕ} {us ts : List Tok} → Follow bytes p us r → Follow bytes p ts q → Comes bytes q (Next.End n) → (rest : List Tok) × (us ++ rest ≡ ts)
  within {ts = ts} nothing g e = (ts, refl)
  within {q = q} (next c f) nothing e = absurd (no_end bytes q c e)
  within {q = q} (next {t = t} c f) (next {t = u} {ts = ts} d g) e =
      let same : u ≡ t = pick bytes d c in
      let o = within f (subst (λ (x : Token.Token). Follow bytes x.end ts q) same g) e in
      (o.0, λ i. seen (sym same i) ∷ o.1 i)

-- ---- the forms that a text may have

-- they are the level's
pub level_keeps : (limits : Limits) (l : Level) (v : Value) → keeps (allowed limits l) v ≡ true → keeps l v ≡ true
level_keeps limits l v k = by limits.arrow k
  where
    by : (b : Bool) → keeps (readable b l) v ≡ true → keeps l v ≡ true
    by true e = e
    by false e = keeps_too l v e

-- where the arrow is retired, it is not among them
no_arrows : (limits : Limits) (l : Level) (v : Value) → limits.arrow ≡ false → keeps (allowed limits l) v ≡ true → Every NoArrow (yield_value v [])
no_arrows limits l v e k = yields_no_arrow l v (subst (λ (b : Bool). keeps (readable b l) v ≡ true) e k)

module _ (limits : Limits) (l : Level) (bytes : List ℕ) (v : Value) where
  -- ---- a derived text is accepted

  module _ (d : Derived limits l bytes v) where
    level_has : keeps l v ≡ true
    level_has = level_keeps limits l v d.of_level

    -- no token of a derived text is faulty
    unfaulted : {p q n : ℕ} {ts : List Tok} {t : Token.Token} (xs : List Tok) → Follow bytes d.start xs p → Comes bytes p (Next.Token t) →
        Follow bytes t.end ts q → Comes bytes q (Next.End n) → xs ++ (seen t ∷ ts) ≡ yield_value v [] → (m x : ℕ) → Fault limits l bytes xs p m x → ⊥
    unfaulted {ts = ts} {t = t} xs f c g z e =
        faultless bytes limits l c (not_newer, (not_wrong, (not_retired, ((λ b. d.sound f c (c.3.true_holds b)), (not_deep, tt)))))
      where
        begins : (us rest : List Tok) → us ++ rest ≡ ts → Begins l (xs ++ (seen t ∷ us))
        begins us rest h =
            record {
              rest = rest;
              sentence =
                  record {
                    tree = v;
                    of_level = level_has;
                    yields = sym e ∙ ap (λ (r : List Tok). xs ++ (seen t ∷ r)) (sym h) ∙ sym (append_assoc xs (seen t ∷ us) rest);
                  };
            }

        not_newer : NewerAt l bytes xs t → ⊥
        not_newer n =
            let o = within bytes n.follow g z in
            newer_begins l xs (seen t) n.ahead n.newer (begins n.ahead o.0 o.1)

        not_wrong : Wrong l xs (seen t) → ⊥
        not_wrong w = w.none (begins [] ts refl)

        not_retired : Retired limits t → ⊥
        not_retired r =
            every_first (every_part xs (seen t ∷ ts) (subst (Every NoArrow) (sym e) (no_arrows limits l v r.retired d.of_level))).1 r.arrow

        not_deep : TooDeep limits xs t → ⊥
        not_deep h = omega (arith, h.beyond, d.shallow (xs ++ (seen t ∷ [])) ts (append_assoc xs (seen t ∷ []) ts ∙ e))

    onward : {p q n : ℕ} {ts : List Tok} (xs : List Tok) → Follow bytes d.start xs p → Passed limits l bytes xs p → Follow bytes p ts q →
        Comes bytes q (Next.End n) → xs ++ ts ≡ yield_value v [] → Passed limits l bytes (yield_value v []) q
    onward {p} xs f a nothing z e = subst (λ (r : List Tok). Passed limits l bytes r p) (sym (append-nil xs) ∙ e) a
    onward xs f a (next {t = t} {ts = ts} c g) z e =
        onward (xs ++ (seen t ∷ [])) (append bytes f (next c nothing)) (passed a c (unfaulted xs f c g z e)) g z (append_assoc xs (seen t ∷ []) ts ∙ e)

    derived_passed : AllPassed limits l bytes (yield_value v [])
    derived_passed =
        record {
          from = d.end;
          good = onward [] nothing (begun d.front) d.row d.at_end refl;
          at_end = d.at_end;
          ends = λ w. w.none (record { tree = v; of_level = level_has; yields = refl });
        }

  -- ---- an accepted text is derived

  module _ (a : AllPassed limits l bytes (yield_value v [])) where
    at : (s : ℕ) × Front bytes s
    at = start bytes limits l a.good

    whole : Follow bytes at.0 (yield_value v []) a.from
    whole = follows bytes limits l at.1 a.good

    -- the tests that a token without a fault has passed
    clean : {p : ℕ} {ts : List Tok} {t : Token.Token} → Follow bytes at.0 ts p → Comes bytes p (Next.Token t) → None (tests limits l bytes ts t)
    clean {p} {ts} {t} f c = by (within bytes f whole a.at_end)
      where
        by : (rest : List Tok) × (ts ++ rest ≡ yield_value v []) → None (tests limits l bytes ts t)
        by ([], e) =
            let o = one_row bytes f whole (ap (λ (r : List Tok). length r) (sym (append-nil ts) ∙ e)) in
            absurd (no_end bytes a.from (subst (λ (q : ℕ). Comes bytes q (Next.Token t)) o.1 c) a.at_end)
        by (r ∷ rest, e) =
            no_test_holds limits l bytes c none
          where
            none : (n q : ℕ) → Fault limits l bytes ts p n q → ⊥
            none = (went bytes limits l at.1 f a.good (omega (arith, ap (λ (r : List Tok). length r) e, length-append ts (r ∷ rest)))).sound

    -- one token more
    deeper : (xs : List Tok) (t : Token.Token) → opened xs ≤ limits.depth → (TooDeep limits xs t → ⊥) → opened (xs ++ (seen t ∷ [])) ≤ limits.depth
    deeper xs t h k = by (order (opened xs) (opened (xs ++ (seen t ∷ [])))) (order limits.depth (opened (xs ++ (seen t ∷ []))))
      where
        by : Order (opened xs) (opened (xs ++ (seen t ∷ []))) → Order limits.depth (opened (xs ++ (seen t ∷ []))) → opened (xs ++ (seen t ∷ [])) ≤ limits.depth
        by (equal e) o = omega (arith, e, h)
        by (less g) (equal e) = omega (arith, e)
        by (less g) (less b) = absurd (k (record { deeper = g; beyond = b }))
        by (less g) (more b) = omega (arith, b)
        by (more g) o = omega (arith, g, h)

    deep : {p q : ℕ} (xs before behind : List Tok) → Follow bytes at.0 xs p → Follow bytes p (before ++ behind) q →
        opened xs ≤ limits.depth → opened (xs ++ before) ≤ limits.depth
    deep xs [] behind f g h = subst (λ (r : List Tok). opened r ≤ limits.depth) (sym (append-nil xs)) h
    deep xs (b ∷ before) behind f (next {t = t} c g) h =
        subst (λ (r : List Tok). opened r ≤ limits.depth) (append_assoc xs (seen t ∷ []) before)
        (deep (xs ++ (seen t ∷ [])) before behind (append bytes f (next c nothing)) g (deeper xs t h (clean f c).1.1.1.1.0))

    -- no token is the arrow where it is retired
    unarrowed : limits.arrow ≡ false → {p q : ℕ} (xs : List Tok) {ts : List Tok} → Follow bytes at.0 xs p → Follow bytes p ts q → Every NoArrow ts
    unarrowed e xs f nothing = none
    unarrowed e xs f (next {t = t} c g) =
        also (λ r. (clean f c).1.1.0 (record { retired = e; arrow = r })) (unarrowed e (xs ++ (seen t ∷ [])) (append bytes f (next c nothing)) g)

    forms_kept : keeps l v ≡ true → keeps (allowed limits l) v ≡ true
    forms_kept k = by limits.arrow refl
      where
        by : (b : Bool) → limits.arrow ≡ b → keeps (readable b l) v ≡ true
        by true e = k
        by false e = keeps_arrowless l v (unarrowed e [] nothing whole) k

    passed_derived : keeps l v ≡ true → Derived limits l bytes v
    passed_derived k =
        record {
          of_level = forms_kept k;
          start = at.0;
          front = at.1;
          end = a.from;
          row = whole;
          at_end = a.at_end;
          sound = λ f c b. (clean f c).1.1.1.0 (c.3.holds_true b);
          shallow = λ before behind e. deep [] before behind nothing (subst (λ (r : List Tok). Follow bytes at.0 r a.from) (sym e) whole) (omega arith);
        }

module _ (limits : Limits) (bytes : List ℕ) {l : Level} {v : Value} where
  pub derived_accepted : Derived limits l bytes v → Accepted limits bytes l v
  derived_accepted d = record { of_level = level_keeps limits l v d.of_level; passed = derived_passed limits l bytes v d }

  pub accepted_derived : Accepted limits bytes l v → Derived limits l bytes v
  accepted_derived a = passed_derived limits l bytes v a.passed a.of_level

-- a text has one derivation
pub one_derivation : (limits : Limits) (bytes : List ℕ) {l : Level} {v w : Value} → Derived limits l bytes v → Derived limits l bytes w → v ≡ w
one_derivation limits bytes d e = one_tree_lem limits bytes refl (derived_accepted limits bytes d) (derived_accepted limits bytes e)

-- a text has its derivation at every level with the derivation's forms
pub derived_at : (limits : Limits) (bytes : List ℕ) {l m : Level} {v : Value} → Derived limits l bytes v → keeps m v ≡ true → Derived limits m bytes v
derived_at limits bytes {l} {m} {v} d k =
    record {
      of_level = by limits.arrow refl;
      start = d.start;
      front = d.front;
      end = d.end;
      row = d.row;
      at_end = d.at_end;
      sound = d.sound;
      shallow = d.shallow;
    }
  where
    by : (b : Bool) → limits.arrow ≡ b → keeps (readable b m) v ≡ true
    by true e = k
    by false e = keeps_arrowless m v (no_arrows limits l v e d.of_level) k

-- where the arrow is retired, no token of a text with a derivation is one
pub derived_arrowless : (limits : Limits) (bytes : List ℕ) {l : Level} {v : Value} → limits.arrow ≡ false → Derived limits l bytes v → NoArrows bytes
derived_arrowless limits bytes {l} {v} e d = record { none = λ {start} {p} {before} {t} f g c a. by start p before t f g c a }
  where
    by : (start p : ℕ) (before : List Tok) (t : Token.Token) → Front bytes start → Follow bytes start before p → Comes bytes p (Next.Token t) → IsArrow (seen t) → ⊥
    by start p before t f g c =
        let from = subst (λ (x : ℕ). Follow bytes x before p) (one_front bytes f d.front) g in
        let o = within bytes (append bytes from (next c nothing)) d.row d.at_end in
        every_first (every_part before (seen t ∷ o.0)
        (subst (Every NoArrow) (sym o.1 ∙ append_assoc before (seen t ∷ []) o.0) (no_arrows limits l v e d.of_level))).1
