-- Every input has an answer, and only one: the encoding, the front, and what comes next at every place are decided. Assumes nothing.
use mathlib.Core.Path.{◌≡◌, refl, sym, subst}
use mathlib.Core.Logic.{◌⊎◌, inl, inr}
use mathlib.Core.List.{List, [], ◌∷◌, ◌++◌}
use mathlib.Core.Option.{Option, some}
use Prim.Native.Nat.{ℕ, zero, suc, ◌+◌, ◌≤◌}
use native.Mathlib.Omega.{arith}
use lib.ListN.{length}
use Rattle.lexicon.specs.declared.Token as Token
use Rattle.std.specs.Prelude.{Result, Ok, Err}
use Rattle.lexicon.specs.declared.NotUtf8.{NotUtf8}
use Rattle.lexicon.specs.declared.Next.TheVariants as Next
use Rattle.lexicon.specs.Utf8.{WellFormed, Encoded}
use Rattle.lexicon.specs.Front.{Front}
use Rattle.lexicon.specs.Token.{Comes}
use Rattle.lexicon.proofs.Unique.{token_forward}
use Rattle.grammar.specs.Tokens.{Tok}
use Rattle.grammar.specs.Tree.{Value}
use Rattle.grammar.specs.Level.{Level, level1, level2}
use Rattle.grammar.specs.Place.{Sentence}
use Rattle.grammar.specs.Nodes.{table}
use Rattle.grammar.proofs.Frames.{Config, want}
use Rattle.grammar.proofs.Machine.{runs}
use Rattle.decisions.proofs.Next.{comes}
use Rattle.decisions.proofs.First.{bad_place}
use Rattle.decisions.proofs.Utf8.{encoded}
use Rattle.decisions.proofs.Front.{front}
use Rattle.reading.specs.declared.Answer.{Answer}
use Rattle.reading.specs.declared.Limits.{Limits}
use Rattle.reading.specs.declared.Rules.{Rules}
use Rattle.reading.specs.Sizes.{room}
use Rattle.reading.specs.Tokens.{seen}
use Rattle.reading.specs.Faults.{Passed, begun, passed, FirstFault, AllPassed}
use Rattle.reading.specs.Answers.{LevelOf, first, second, Accepted, Reading, Answers, no_level, too_long, not_utf8, faulty, no_room, accepted}
use Rattle.reading.proofs.Rows.{Order, equal, less, more, order, comes_forward}
use Rattle.reading.proofs.Unique.{one_answer}
use Rattle.reading.proofs.Decide.{Decided, stops, ends, goes, decided}

-- ---- the level of a number

a_level : {n : ℕ} {l : Level} → LevelOf n l → (n ≡ 1) ⊎ (n ≡ 2)
a_level first = inl refl
a_level second = inr refl

level_or_not : (n : ℕ) → ((l : Level) × LevelOf n l) ⊎ ((l : Level) → LevelOf n l → ⊥)
level_or_not zero = inr λ l o. none (a_level o)
  where
    none : (zero ≡ 1) ⊎ (zero ≡ 2) → ⊥
    none (inl e) = omega (arith, e)
    none (inr e) = omega (arith, e)
level_or_not (suc zero) = inl (level1, first)
level_or_not (suc (suc zero)) = inl (level2, second)
level_or_not (suc (suc (suc n))) = inr λ l o. none (a_level o)
  where
    none : (suc (suc (suc n)) ≡ 1) ⊎ (suc (suc (suc n)) ≡ 2) → ⊥
    none (inl e) = omega (arith, e)
    none (inr e) = omega (arith, e)

-- ---- the tokens, from left to right

module _ (limits : Limits) (bytes : List ℕ) (l : Level) where
  data Outcome : Type 0 where
    stopped : (n q : ℕ) → FirstFault limits l bytes n q → Outcome
    finished : {ts : List Tok} → Sentence l ts → AllPassed limits l bytes ts → Outcome

  -- one token, and then what follows it
  one_more_lem : (ts : List Tok) (p : ℕ) (c : Config) → Passed limits l bytes ts p → runs l ts ≡ some c →
      ((t : Token.Token) (d : Config) → Comes bytes p (Next.Token t) → Passed limits l bytes (ts ++ (seen t ∷ [])) t.end → runs l (ts ++ (seen t ∷ [])) ≡ some d → Outcome) → Outcome
  one_more_lem ts p c a e again = go (decided bytes (comes bytes) (bad_place bytes) limits l ts p c e)
    where
      go : Decided bytes (comes bytes) (bad_place bytes) limits l ts p → Outcome
      go (stops n q f) = stopped n q (record { before = ts; from = p; good = a; fault = f })
      go (ends q b s) = finished s (record { from = p; good = a; ends = λ w. w.none s; at_end = (refl, b.1, b.2, b.3) })
      go (goes t d b f r) = again t d b (passed a b f) r

  -- each token takes a byte at least, so the bytes left are tokens enough
  onward : (left : ℕ) (ts : List Tok) (p : ℕ) (c : Config) → length bytes ≤ p + left → Passed limits l bytes ts p → runs l ts ≡ some c → Outcome
  onward zero ts p c h a e = one_more_lem ts p c a e (λ t d b g r. absurd (omega (arith, h, comes_forward bytes b, b.1)))
  onward (suc left) ts p c h a e =
      one_more_lem ts p c a e (λ t d b g r. onward left (ts ++ (seen t ∷ [])) t.end d (omega (arith, h, comes_forward bytes b, token_forward bytes b.2)) g r)

  outcome : (p : ℕ) → Front bytes p → Outcome
  outcome p f = onward (length bytes) [] p (want []) (omega arith) (begun f) refl

-- ---- the answer

module _ (rules : Rules) (bytes : List ℕ) where
  module _ (room number : ℕ) where
    -- some answer where there is room for so many nodes
    abbrev Answered : Type 0
    Answered = (r : Answer) × (t : Option Value) × Reading rules bytes room number r t

    pub some_reading : Answered
    some_reading = level (level_or_not number)
      where
        roomy : {l : Level} → LevelOf number l → length bytes ≤ rules.text → WellFormed bytes → (v : Value) → Accepted rules.limits bytes l v → Order room (length (table v)) → Answered
        roomy o h w v a (equal e) = (_, _, accepted o h w a (omega (arith, e)))
        roomy o h w v a (less g) = (_, _, no_room o h w a g)
        roomy o h w v a (more g) = (_, _, accepted o h w a (omega (arith, g)))

        judged : {l : Level} → LevelOf number l → length bytes ≤ rules.text → WellFormed bytes → Outcome rules.limits bytes l → Answered
        judged o h w (stopped n q f) = (_, _, faulty o h w f)
        judged {l} o h w (finished {ts} s a) =
            roomy o h w s.tree (record { of_level = s.of_level; passed = subst (AllPassed rules.limits l bytes) (sym s.yields) a }) (order room (length (table s.tree)))

        formed : {l : Level} → LevelOf number l → length bytes ≤ rules.text → (r : Result (Unit {0}) NotUtf8) → Encoded bytes r → Answered
        formed {l} o h (Ok _) w = judged o h w (outcome rules.limits bytes l (front bytes).0 (front bytes).1)
        formed o h (Err p) b = (_, _, not_utf8 o h b)

        long : {l : Level} → LevelOf number l → Order rules.text (length bytes) → Answered
        long o (equal e) = formed o (omega (arith, e)) (encoded bytes).0 (encoded bytes).1
        long o (less h) = (_, _, too_long o h)
        long o (more h) = formed o (omega (arith, h)) (encoded bytes).0 (encoded bytes).1

        level : ((l : Level) × LevelOf number l) ⊎ ((l : Level) → LevelOf number l → ⊥) → Answered
        level (inl x) = long x.1 (order rules.text (length bytes))
        level (inr f) = (_, _, no_level f)

  module _ (lent : List ℕ) (number : ℕ) where
    -- with the table as well
    pub some_answer : (r : Answer) × (t : List ℕ) × Answers rules bytes lent number r t
    some_answer = let x = some_reading (room rules (length lent)) number in (x.0, _, record { tree = x.1; reading = x.2; left_is = refl })

    -- and it is the one
    pub exactly_one : (r : Answer) × (t : List ℕ) × Answers rules bytes lent number r t × ((s : Answer) (u : List ℕ) → Answers rules bytes lent number s u → (r ≡ s) × (t ≡ u))
    exactly_one = let x = some_answer in (x.0, x.1, x.2, λ s u a. one_answer rules bytes lent x.2 a)
