-- The first faulty token is one: no text has two first faults, and a text whose tokens all pass has none. Assumes nothing.
use mathlib.Core.Path.{◌≡◌, refl, sym, ap, subst}
use mathlib.Core.List.{List, [], ◌∷◌}
use Prim.Native.Nat.{ℕ, ◌≤◌, ◌<◌}
use native.Mathlib.Omega.{arith}
use lib.ListN.{length, length-append}
use Rattle.lexicon.specs.declared.Token as Token
use Rattle.lexicon.specs.declared.Next.{Next}
use Rattle.lexicon.specs.Front.{Front}
use Rattle.lexicon.specs.Token.{Comes}
use Rattle.rules.proofs.Matches.{forward}
use Rattle.lexicon.proofs.Determined.{one_front}
use Rattle.grammar.specs.Tokens.{Tok}
use Rattle.grammar.specs.Level.{Level}
use Rattle.grammar.specs.Place.{WrongEnd}
use Rattle.reading.specs.declared.Limits.{Limits}
use Rattle.reading.specs.Tokens.{seen, Follow, nothing, next}
use Rattle.reading.specs.Faults.{tests, PlaceOf, Fault, no_token, wrong_end, at_token, Passed, begun, passed, FirstFault, AllPassed}
use Rattle.reading.specs.Tests.{First}
use Rattle.reading.proofs.Tests.{one_test}
use Rattle.reading.proofs.Placed.{one_placed, placed_from}
use Rattle.reading.proofs.Rows.{Order, equal, less, more, order, pick, same_place, no_end, no_none, none_end, one_row, comes_forward, append}

module _ (bytes : List ℕ) where
  module _ (limits : Limits) (l : Level) where
    -- ---- at one token there is one fault at most

    pub one_fault : {ts : List Tok} {p m n x y : ℕ} → Fault limits l bytes ts p m x → Fault limits l bytes ts p n y → (m ≡ n) × (x ≡ y)
    one_fault {ts} {p} (no_token {q} c) (no_token {q = r} d) = (refl, same_place bytes p (Next.NoToken q) (Next.NoToken r) c d)
    one_fault {ts} {p} (no_token c) (wrong_end d w) = absurd (none_end bytes p c d)
    one_fault {ts} {p} (no_token c) (at_token d f w) = absurd (no_none bytes p d c)
    one_fault {ts} {p} (wrong_end c e) (no_token d) = absurd (none_end bytes p d c)
    one_fault {ts} {p} (wrong_end {q} c e) (wrong_end {q = r} d e') = (refl, same_place bytes p (Next.End q) (Next.End r) c d)
    one_fault {ts} {p} (wrong_end c e) (at_token d f w) = absurd (no_end bytes p d c)
    one_fault {ts} {p} (at_token c f v) (no_token d) = absurd (no_none bytes p c d)
    one_fault {ts} {p} (at_token c f v) (wrong_end d e) = absurd (no_end bytes p c d)
    one_fault {ts} {p} {m} {n} {x} (at_token {t = t} c f v) (at_token {t = u} d g w) =
        let same : t ≡ u = pick bytes c d in
        let number : m ≡ n = one_test (tests limits l bytes ts u) (subst (λ (y : Token.Token). First (tests limits l bytes ts y) m) same f) g in
        (number, one_placed (subst (λ (k : ℕ). PlaceOf bytes u k x) number (subst (λ (y : Token.Token). PlaceOf bytes y m x) same v)) w)

    -- a fault is not before the place from which its token is looked for
    pub fault_later : {ts : List Tok} {x p n q : ℕ} → x ≤ p → x ≤ length bytes → Fault limits l bytes ts p n q → x ≤ q
    fault_later h g (no_token d) = omega (arith, h, forward d.0.takes)
    fault_later h g (wrong_end d w) = omega (arith, g, d.0)
    fault_later h g (at_token d x v) = omega (arith, h, comes_forward bytes d, placed_from v)

    -- where a token comes, a fault is at its first byte or behind it
    pub fault_there : {ts : List Tok} {p n q : ℕ} {t : Token.Token} → Comes bytes p (Next.Token t) → Fault limits l bytes ts p n q → t.first ≤ q
    fault_there {p = p} c (no_token d) = absurd (no_none bytes p c d)
    fault_there {p = p} c (wrong_end d w) = absurd (no_end bytes p c d)
    fault_there c (at_token d x v) = omega (arith, ap (λ (t : Token.Token). t.first) (pick bytes c d), placed_from v)

    -- ---- the tokens that pass

    pub follows : {ts : List Tok} {s p : ℕ} → Front bytes s → Passed limits l bytes ts p → Follow bytes s ts p
    follows {ts} {s} f (begun {p = p} g) = subst (Follow bytes s []) (one_front bytes f g) nothing
    follows f (passed a c n) = append bytes (follows f a) (next c nothing)

    pub start : {ts : List Tok} {p : ℕ} → Passed limits l bytes ts p → (s : ℕ) × Front bytes s
    start (begun {p = p} f) = (p, f)
    start (passed a c n) = start a

    -- a token that is not faulty comes behind the tokens ts
    pub record Went (ts : List Tok) (p : ℕ) : Type 0 where
      pub token : Token.Token
      pub comes : Comes bytes p (Next.Token token)
      pub sound : (n q : ℕ) → Fault limits l bytes ts p n q → ⊥

    -- so it is behind a shorter row
    pub went : {s p q : ℕ} {ts us : List Tok} → Front bytes s → Follow bytes s ts p → Passed limits l bytes us q → length ts < length us → Went ts p
    went f a (begun g) h = absurd (omega (arith, h))
    went {s} {p} {q} {ts} {us} f a (passed {p = q'} {ts = us'} {t = u} b d m) h = by (λ g. went f a b g) (order (length ts) (length us'))
      where
        by : (length ts < length us' → Went ts p) → Order (length ts) (length us') → Went ts p
        by again (equal e) =
            let o = one_row bytes a (follows f b) e in
            record {
              token = u;
              comes = subst (λ (x : ℕ). Comes bytes x (Next.Token u)) (sym o.1) d;
              sound = λ n y z. m n y (subst (λ (x : ℕ). Fault limits l bytes us' x n y) o.1 (subst (λ (x : List Tok). Fault limits l bytes x p n y) o.0 z));
            }
        by again (less g) = again g
        by again (more g) = absurd (omega (arith, g, h, length-append us' (seen u ∷ [])))

    -- ---- no text has two first faults

    pub one_first : {m n x y : ℕ} → FirstFault limits l bytes m x → FirstFault limits l bytes n y → (m ≡ n) × (x ≡ y)
    one_first {m} {n} {x} {y} f g = by (order (length f.before) (length g.before))
      where
        at : (s : ℕ) × Front bytes s
        at = start f.good

        fs : Follow bytes at.0 f.before f.from
        fs = follows at.1 f.good

        gs : Follow bytes at.0 g.before g.from
        gs = follows at.1 g.good

        by : Order (length f.before) (length g.before) → (m ≡ n) × (x ≡ y)
        by (equal e) =
            let o = one_row bytes fs gs e in
            one_fault (subst (λ (p : ℕ). Fault limits l bytes g.before p m x) o.1 (subst (λ (ts : List Tok). Fault limits l bytes ts f.from m x) o.0 f.fault)) g.fault
        by (less h) = absurd ((went at.1 fs g.good h).sound m x f.fault)
        by (more h) = absurd ((went at.1 gs f.good h).sound n y g.fault)

    -- and none if all pass
    end_fault : {ts : List Tok} {p q n x : ℕ} → Comes bytes p (Next.End q) → (WrongEnd l ts → ⊥) → Fault limits l bytes ts p n x → ⊥
    end_fault {ts} {p} c k (no_token d) = none_end bytes p d c
    end_fault {ts} {p} c k (wrong_end d w) = k w
    end_fault {ts} {p} c k (at_token d f v) = no_end bytes p d c

    pub all_or_fault : {ts : List Tok} {n x : ℕ} → AllPassed limits l bytes ts → FirstFault limits l bytes n x → ⊥
    all_or_fault {ts} {n} {x} a f = by (order (length ts) (length f.before))
      where
        at : (s : ℕ) × Front bytes s
        at = start a.good

        all : Follow bytes at.0 ts a.from
        all = follows at.1 a.good

        fs : Follow bytes at.0 f.before f.from
        fs = follows at.1 f.good

        by : Order (length ts) (length f.before) → ⊥
        by (equal e) =
            let o = one_row bytes fs all (sym e) in
            end_fault a.at_end a.ends (subst (λ (p : ℕ). Fault limits l bytes ts p n x) o.1 (subst (λ (us : List Tok). Fault limits l bytes us f.from n x) o.0 f.fault))
        by (less h) = let w = went at.1 all f.good h in no_end bytes a.from w.comes a.at_end
        by (more h) = (went at.1 fs a.good h).sound n x f.fault

    -- texts that pass have the same tokens
    pub one_passing : {ts us : List Tok} → AllPassed limits l bytes ts → AllPassed limits l bytes us → ts ≡ us
    one_passing {ts} {us} a b = by (order (length ts) (length us))
      where
        at : (s : ℕ) × Front bytes s
        at = start a.good

        all : Follow bytes at.0 ts a.from
        all = follows at.1 a.good

        bs : Follow bytes at.0 us b.from
        bs = follows at.1 b.good

        by : Order (length ts) (length us) → ts ≡ us
        by (equal e) = (one_row bytes all bs e).0
        by (less h) = let w = went at.1 all b.good h in absurd (no_end bytes a.from w.comes a.at_end)
        by (more h) = let w = went at.1 bs a.good h in absurd (no_end bytes b.from w.comes b.at_end)
