-- A byte of ASCII is a sequence of its own, so what begins and ends with one is, in a well-formed text, whole sequences, and well formed
-- by itself. Every token rule does. Assumes nothing.
use mathlib.Core.Path.{◌≡◌, refl, sym}
use mathlib.Core.Bool.{true, ◌&&◌}
use mathlib.Core.List.{List, [], ◌∷◌}
use Prim.Native.Nat.{ℕ, ◌+◌, ◌≤◌, ◌<◌}
use native.Mathlib.Decide.{dec_le}
use native.Mathlib.Omega.{arith}
use Rattle.rules.specs.Class.{Class, ◌upto◌}
use Rattle.rules.specs.Rule.{Rule, many, At, Takes, byte, left, right, stop, more}
use Rattle.rules.specs.Plain.{between}
use Rattle.rules.proofs.Classes.{apart, apart_span, apart_no, includes, in_some}
use Rattle.rules.proofs.Chains.{move, snoc}
use Rattle.rules.proofs.Matches.{forward, inside, ending}
use Rattle.rules.proofs.Ways.{opens, opens_at}
use Rattle.rules.proofs.Bounds.{all_of, all_of_lem, among_all, closes, closes_at}
use Rattle.rules.proofs.Windows.{alone, takes_moves}
use Rattle.lexicon.specs.Utf8.{beyond, sequence, WellFormed}
use Rattle.lexicon.specs.Token.{Lexeme, rule}
use Rattle.lexicon.proofs.Tokens.{for_every}

abbrev pub ascii : Class
ascii = 0x00 upto 0x7F ∷ []

abbrev high : Class
high = 0x80 upto 0xFF ∷ []

beyond_high : all_of high (beyond 0xC2) ≡ true
unfolding includes in_some
beyond_high = refl

high_ascii : apart high ascii ≡ true
unfolding apart apart_span
high_ascii = refl

-- the first and the last byte of every token rule
pub edges : (l : Lexeme) → (opens ascii (rule l) && closes ascii (rule l)) ≡ true
unfolding opens includes in_some
edges = for_every (λ (l : Lexeme). opens ascii (rule l) && closes ascii (rule l)) refl

module _ (text : List ℕ) where
  -- in a sequence a byte of ASCII stands alone
  lone : {s m i : ℕ} → Takes text sequence s m → s ≤ i → i < m → At text ascii i → (s ≡ i) × (m ≡ i + 1)
  lone (left (byte a e)) h k x = (omega (arith, e, h, k), omega (arith, e, h, k))
  lone (right t) h k x = absurd (apart_no high ascii _ high_ascii (among_all high (all_of_lem high t beyond_high) h k).1 x.1)

  -- so sequences are whole up to it, and from it on
  cut : {s i e : ℕ} → Takes text (many sequence) s e → s ≤ i → i < e → At text ascii i → Takes text (many sequence) s i × Takes text (many sequence) i e
  cut (stop f) h k x = absurd (omega (arith, f, h, k))
  cut {s} {i} {e} (more {m = m} t u) h k x = go (dec_le m i) (λ y. cut u y k x)
    where
      go : Dec (m ≤ i) → (m ≤ i → Takes text (many sequence) m i × Takes text (many sequence) i e) → Takes text (many sequence) s i × Takes text (many sequence) i e
      go (yes y) f = let c = f y in (more t c.0, c.1)
      go (no y) f = let c = lone t h (omega (arith, y)) x in (stop c.0, move (sym c.0) (more t u))

  module _ (w : WellFormed text) where
    -- a rule whose matches begin and end with ASCII takes whole sequences
    pub whole : (r : Rule) → opens ascii r ≡ true → closes ascii r ≡ true → {i j : ℕ} → Takes text r i j → Takes text (many sequence) i j
    whole r o c t =
        let a = opens_at text ascii r o t in
        let l = closes_at text ascii r c t in
        let x = (cut w (omega arith) a.0 a).1 in
        let y = (cut x l.behind l.byte_is.0 l.byte_is).0 in
        ending (sym l.before) (snoc y (left (byte l.byte_is refl)))

    -- so its match is well formed by itself
    pub whole_formed : (r : Rule) → opens ascii r ≡ true → closes ascii r ≡ true → {i j : ℕ} → Takes text r i j → WellFormed (between text i j)
    whole_formed r o c {i} {j} t =
        let f = forward t in let g = inside t (omega (arith, (opens_at text ascii r o t).0)) in
        alone text f g (λ (x : List ℕ). Takes x (many sequence)) (takes_moves (many sequence)) (whole r o c t)
