-- What the searches at a token's first byte answer. Assumes nothing.
use Rattle.std.specs.Prelude.{◌≡◌, ◌⊎◌, Bool, true, false, List, ℕ, get_or, Option, Some, None}
use Rattle.rules.specs.Test.{Says}
use Rattle.rules.specs.Class.{has, just, byte_of}
use Rattle.rules.specs.Rule.{At, Takes, Fails}
use Rattle.lexicon.specs.declared.Sign.{Sign}
use Rattle.lexicon.specs.declared.Kind.{Kind}
use Rattle.lexicon.specs.declared.Token as Token
use Rattle.lexicon.specs.Symbols.{symbol}
use Rattle.lexicon.specs.Bytes.{word_start, decimal}
use Rattle.lexicon.specs.Literals.{ignorance, boolean, later}
use Rattle.lexicon.specs.Token.{Lexeme, an_integer, a_fraction, a_symbol, rule, Here, Is, Bad}
use Rattle.token.specs.declared.symbol.Symbol.{Symbol}

-- no symbol stands at i
pub record NoSymbol (text : List ℕ) (i : ℕ) : Type 0 where
  pub none : (s : Sign) {k : ℕ} → Takes text (symbol s) i k → ⊥

abbrev pub Symboled : List ℕ → ℕ → Option Symbol → Type 0
Symboled text i (Some s) = Here text (a_symbol s.sign) i s.end
Symboled text i None = NoSymbol text i

-- no token starts at i
pub record NoneAt (text : List ℕ) (i : ℕ) : Type 0 where
  pub none : (k : Kind) (j : ℕ) → Is text k i j → ⊥

-- a token of kind k from i to j, and whether its value is bad
pub record TokenAt (text : List ℕ) (k : Kind) (i j : ℕ) (b : Bool) : Type 0 where
  pub is : Is text k i j
  pub bad_is : Says b (Bad text k i j)

-- the token that starts at i, or that none does
abbrev pub StartsAt : List ℕ → ℕ → Option Token.Token → Type 0
StartsAt text i (Some t) = (t.first ≡ i) × TokenAt text t.kind i t.end t.bad
StartsAt text i None = NoneAt text i

-- no lexeme but an Integer or a Fraction stands at i
pub record NumberOnly (text : List ℕ) (i : ℕ) : Type 0 where
  pub others : (l : Lexeme) {k : ℕ} → Takes text (rule l) i k → (l ≡ an_integer) ⊎ (l ≡ a_fraction)
  pub no_colon : At text (just (byte_of ":")) i → ⊥

-- no literal of one spelling stands at i
pub record Marked (text : List ℕ) (i : ℕ) : Type 0 where
  pub no_ignorance : Fails text ignorance i
  pub no_false : Fails text (boolean false) i
  pub no_true : Fails text (boolean true) i
  pub no_later : Fails text later i

abbrev pub FixedAt : List ℕ → ℕ → Option (Kind × ℕ) → Type 0
FixedAt text i (Some t) = TokenAt text t.0 i t.1 false
FixedAt text i None = Marked text i

-- the byte at i begins no literal without a minus sign, and is no colon
pub record NotOpening (text : List ℕ) (i : ℕ) : Type 0 where
  pub no_quote : get_or text i 0 ≡ byte_of "\"" → ⊥
  pub no_word : has word_start (get_or text i 0) ≡ false
  pub no_digit : has decimal (get_or text i 0) ≡ false
  pub no_plus : get_or text i 0 ≡ byte_of "+" → ⊥
  pub no_colon : get_or text i 0 ≡ byte_of ":" → ⊥
