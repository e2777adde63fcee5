-- Every accepted text is itself laid out anew: so the relation is not empty, and no accepted text is left out. Assumes nothing.
use mathlib.Core.Path.{◌≡◌, refl, sym, ap, subst, ◌∙◌}
use mathlib.Core.Logic.{⊎_elim}
use mathlib.Core.List.{List, [], ◌∷◌, ◌++◌, append_assoc}
use Prim.Native.Nat.{ℕ, zero, suc, ◌+◌, ◌-◌, ◌≤◌}
use native.Mathlib.Omega.{arith}
use lib.ListN.{length, get_or, drop, length-drop}
use lib.Seq.{take_all}
use Rattle.rules.specs.Class.{Class, any_of}
use Rattle.rules.specs.Rule.{Rule, empty, one, ◌then◌, ◌or◌, many, plus, opt, times, Takes, nothing, byte, both, left, right, stop, more, Fails}
use Rattle.rules.specs.Plain.{Matches, one_byte, in_left, in_right, no_more, one_more, joined, between}
use Rattle.rules.proofs.Matches.{inside, ending}
use Rattle.rules.proofs.Plain.{plain}
use Rattle.rules.proofs.Chains.{join}
use Rattle.rules.proofs.Ways.{begins_none, end_takes}
use Rattle.lexicon.specs.declared.Form.TheVariants.{Quoted, Word, HeadWord, CodePoint}
use Rattle.lexicon.specs.declared.Kind.{Kind}
use Rattle.lexicon.specs.declared.Kind.TheVariants.{Ignorance, Boolean, Integer, Fraction, Bits, Blob, Text, Later, Symbol, Colon, TwoColons}
use Rattle.lexicon.specs.declared.Next.TheVariants as Next
use Rattle.lexicon.specs.Space.{blank, sp}
use Rattle.lexicon.specs.Literals.{unit, groups, segment}
use Rattle.lexicon.specs.Token.{Lexeme, an_ignorance, a_boolean, an_integer, a_fraction, a_bits, a_blob, a_quoted, a_word, a_code_point, a_later, a_symbol, rule, Told, Comes}
use Rattle.lexicon.proofs.Segments.{quote_blank}
use Rattle.grammar.specs.Tokens.{Tok}
use Rattle.grammar.specs.Tree.{Value}
use Rattle.grammar.specs.Level.{Level}
use Rattle.reading.specs.declared.Limits.{Limits}
use Rattle.reading.specs.Tokens.{Follow}
use Rattle.reading.specs.Tokens.{nothing as no_token_lem, next as token-next}
use Rattle.reading.specs.Derived.{Derived}
use Rattle.form.proofs.Fits.{Sub, Mode, Fits, none, one_of, seq, alt, star, space, units, segments, wide, narrow}
use Rattle.layout.specs.Relaid.{quote, quotes, ordinary, Alike, ends, same_byte, same_quotes, stretch, Relaid}
use Rattle.layout.proofs.Fit.{low_line, colon, fitting}
use Rattle.layout.proofs.Cut.{segment_quotes, ordinary_blank, first_at_lem, quote_first}

-- a blank, not a full stretch, so that rows of pieces join
abbrev piece : Rule
piece = one ordinary or quotes or blank

-- ---- a row of pieces is alike to itself

-- the blanks at the front of a row, and what stands behind them
record Gathered (a : List ℕ) : Type 0 where
  blanks : List ℕ
  rest : List ℕ
  is : blanks ++ rest ≡ a
  matches : Matches (many blank) blanks
  full : Fails rest blank 0
  alike : Alike rest rest

-- gathered, they are a stretch
whole : {a : List ℕ} → Gathered a → Alike a a
whole {a} g = subst (λ (l : List ℕ). Alike l l) g.is (by g.matches)
  where
    by : {x : List ℕ} → Matches (many blank) x → Alike (x ++ g.rest) (x ++ g.rest)
    by no_more = g.alike
    by (one_more m n) = stretch (joined m n) g.full (joined m n) g.alike

-- from the right, blank after blank
gather : {a : List ℕ} → Matches (many piece) a → Gathered a
gather no_more =
    record {
      blanks = [];
      rest = [];
      is = refl;
      matches = no_more;
      full = record { none = λ t. end_takes [] blank refl (omega arith) t };
      alike = ends;
    }
gather (one_more {b = a} (in_left (one_byte {b = b} i)) m) =
    record {
      blanks = [];
      rest = b ∷ a;
      is = refl;
      matches = no_more;
      full = begins_none (b ∷ a) ordinary blank ordinary_blank (first_at_lem ordinary b a i);
      alike = same_byte i (whole (gather m));
    }
gather (one_more {a = q} {b = a} (in_right (in_left n)) m) =
    record {
      blanks = [];
      rest = q ++ a;
      is = refl;
      matches = no_more;
      full = begins_none (q ++ a) quote blank quote_blank (quote_first a n);
      alike = same_quotes n (whole (gather m));
    }
gather (one_more {a = x} {b = a} (in_right (in_right n)) m) =
    let g = gather m in
    record {
      blanks = x ++ g.blanks;
      rest = g.rest;
      is = append_assoc x g.blanks g.rest ∙ ap (λ (l : List ℕ). x ++ l) g.is;
      matches = one_more n g.matches;
      full = g.full;
      alike = g.alike;
    }

-- ---- what tokens are made of

module _ (text : List ℕ) where
  abbrev Pieces : ℕ → ℕ → Type 0
  Pieces i j = Takes text (many piece) i j

  -- each match of the rule is a row of pieces
  record Cut (r : Rule) : Type 0 where
    cut : {i j : ℕ} → Takes text r i j → Pieces i j

  cut_byte : {c : Class} → Sub c ordinary → Cut (one c)
  cut_byte {c} s = record { cut = go }
    where
      go : {i j : ℕ} → Takes text (one c) i j → Pieces i j
      go {i} (byte a e) = more (left (byte (a.0, s.into (get_or text i 0) a.1) e)) (stop refl)

  cut_both : {a b : Rule} → Cut a → Cut b → Cut (a then b)
  cut_both {a} {b} x y = record { cut = go }
    where
      go : {i j : ℕ} → Takes text (a then b) i j → Pieces i j
      go (both t u) = join (x.cut t) (y.cut u)

  cut_or : {a b : Rule} → Cut a → Cut b → Cut (a or b)
  cut_or {a} {b} x y = record { cut = go }
    where
      go : {i j : ℕ} → Takes text (a or b) i j → Pieces i j
      go (left t) = x.cut t
      go (right t) = y.cut t

  cut_many : {r : Rule} → Cut r → Cut (many r)
  cut_many {r} x = record { cut = go }
    where
      go : {i j : ℕ} → Takes text (many r) i j → Pieces i j
      go (stop e) = stop e
      go (more t u) = join (x.cut t) (go u)

  cut_none : Cut empty
  cut_none = record { cut = go }
    where
      go : {i j : ℕ} → Takes text empty i j → Pieces i j
      go (nothing e) = stop e

  cut_blank : Cut blank
  cut_blank = record { cut = λ t. more (right (right t)) (stop refl) }

  cut_sp : Cut sp
  cut_sp = cut_both cut_blank (cut_many cut_blank)

  cut_times : (n : ℕ) {r : Rule} → Cut r → Cut (times n r)
  cut_times zero x = cut_none
  cut_times (suc n) x = cut_both x (cut_times n x)

  cut_plus : {r : Rule} → Cut r → Cut (plus r)
  cut_plus x = cut_both x (cut_many x)

  cut_segment : Cut segment
  cut_segment = record { cut = λ t. more (right (left (segment_quotes t))) (stop refl) }

  cut_groups : (n : ℕ) {c : Class} → Sub c ordinary → Cut (groups n c)
  cut_groups n {c} s = cut_both digits (cut_many (cut_both (cut_or (cut_byte low_line) cut_sp) digits))
    where
      digits : Cut (plus (unit n c))
      digits = cut_plus (cut_times n (cut_byte s))

  fits_cut : {Quotes : Type 0} {m o : Mode} {r : Rule} → Fits ordinary Quotes m r o → Cut r
  fits_cut none = cut_none
  fits_cut (one_of s) = cut_byte s
  fits_cut (seq f g) = cut_both (fits_cut f) (fits_cut g)
  fits_cut (alt f g) = cut_or (fits_cut f) (fits_cut g)
  fits_cut (star f) = cut_many (fits_cut f)
  fits_cut space = cut_or cut_sp cut_none
  fits_cut (units n s) = cut_groups (suc n) s
  fits_cut (segments q) = cut_segment
  fits_cut (wide f) = fits_cut f
  fits_cut (narrow f) = fits_cut f

  cut_rule : (l : Lexeme) → Cut (rule l)
  cut_rule l = fits_cut (fitting l).fits

  -- the first colon of a run
  colon_cut : {i j k : ℕ} → Takes text (many (one (any_of ":"))) i k → i + 1 ≤ k → j ≡ i + 1 → Pieces i j
  colon_cut (stop e) h f = absurd (omega (arith, e, h))
  colon_cut (more (byte a e) t) h f = (cut_byte colon).cut (byte a f)

  token_cut : (k : Kind) {i j : ℕ} → Told text k i j → Pieces i j
  token_cut Ignorance t = (cut_rule an_ignorance).cut t.takes
  token_cut (Boolean b) t = (cut_rule (a_boolean b)).cut t.takes
  token_cut (Integer signed) t = (cut_rule an_integer).cut t.0.takes
  token_cut Fraction t = (cut_rule a_fraction).cut t.takes
  token_cut Bits t = (cut_rule a_bits).cut t.takes
  token_cut Blob t = (cut_rule a_blob).cut t.takes
  token_cut (Text Quoted) t = (cut_rule a_quoted).cut t.takes
  token_cut (Text Word) t = (cut_rule a_word).cut t.0.takes
  token_cut (Text (HeadWord h)) t = (cut_rule a_word).cut t.0.takes
  token_cut (Text CodePoint) t = (cut_rule a_code_point).cut t.takes
  token_cut Later t = (cut_rule a_later).cut t.takes
  token_cut (Symbol s) t = (cut_rule (a_symbol s)).cut t.takes
  token_cut Colon t =
      ⊎_elim (λ c. colon_cut c.takes (omega arith) t.0) (λ c. colon_cut c.takes (omega arith) t.0) t.1
  token_cut TwoColons t = ending (sym t.0) ((cut_many (cut_byte colon)).cut t.1.takes)

  -- ---- a row of tokens, and the end

  space_cut : {i j : ℕ} → Takes text (opt sp) i j → Pieces i j
  space_cut t = (cut_or cut_sp cut_none).cut t

  row_cut : {p q : ℕ} {ts : List Tok} → Follow text p ts q → Pieces p q
  row_cut no_token_lem = stop refl
  row_cut (token-next {t = t} c f) = join (space_cut c.0.takes) (join (token_cut t.kind c.2.told) (row_cut f))

  end_cut : {p n : ℕ} → p ≤ length text → Comes text p (Next.End n) → Pieces p (length text)
  end_cut h c = space_cut (ending (omega (arith, c.3, inside c.2.takes h)) c.2.takes)

  -- behind its front
  rest_alike : {i : ℕ} → Pieces i (length text) → Alike (drop i text) (drop i text)
  unfolding between
  rest_alike {i} t =
      subst (λ (l : List ℕ). Alike l l) (take_all (length text - i) (drop i text) (omega (arith, length-drop i text))) (whole (gather (plain text t)))

pub relaid_itself : (limits : Limits) (l : Level) (text : List ℕ) (v : Value) → Derived limits l text v → Relaid text text
relaid_itself limits l text v d =
    let h : d.start ≤ length text = inside d.front.line.takes (inside d.front.mark.takes (omega arith)) in
    let t = row_cut text d.row in
    record {
      start = d.start;
      front = d.front;
      same_front = refl;
      behind = rest_alike text (join t (end_cut text (inside t h) d.at_end));
    }
