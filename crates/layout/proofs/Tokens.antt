-- Tokens of a text laid out anew: the same ones, between the places that stand for each other. Assumes nothing.
use mathlib.Core.Path.{◌≡◌, refl, sym, subst, ap, ◌∙◌}
use mathlib.Core.Logic.{inl, inr}
use mathlib.Core.Bool.{true}
use mathlib.Core.List.{List}
use Prim.Native.Nat.{ℕ, ◌+◌, ◌≤◌, ◌<◌}
use native.Mathlib.Omega.{arith}
use lib.ListN.{length, get_or}
use Rattle.rules.specs.Class.{has, any_of}
use Rattle.rules.specs.Rule.{Rule, one, many, opt, lit, Takes, nothing, byte, both, left, right, stop, more, At, Longest, Fails}
use Rattle.rules.proofs.Classes.{includes, in_some}
use Rattle.rules.proofs.Bounds.{all_of, all_of_lem}
use Rattle.rules.proofs.Matches.{ending}
use Rattle.rules.proofs.Windows.{takes_moves}
use Rattle.rules.proofs.Ways.{opens, opens_at}
use Rattle.lexicon.specs.declared.Form.TheVariants.{Quoted, Word, HeadWord, CodePoint}
use Rattle.lexicon.specs.declared.Head.{Head}
use Rattle.lexicon.specs.declared.Kind.{Kind}
use Rattle.lexicon.specs.declared.Kind.TheVariants.{Ignorance, Boolean, Integer, Fraction, Bits, Blob, Text, Later, Symbol, Colon, TwoColons}
use Rattle.lexicon.specs.declared.Token as Token
use Rattle.lexicon.specs.declared.Next.TheVariants as Next
use Rattle.lexicon.specs.Space.{blank, sp, Skips}
use Rattle.lexicon.specs.Literals.{integer, word, plus_minus}
use Rattle.lexicon.specs.Symbols.{Colons}
use Rattle.lexicon.specs.Token.{Lexeme, an_ignorance, a_boolean, an_integer, a_fraction, a_bits, a_blob, a_quoted, a_word, a_code_point, a_later, a_symbol, rule, head_word, Here, Told, Is, Comes}
use Rattle.lexicon.proofs.Spaces.{skips, skips_fails, skips_same}
use Rattle.lexicon.proofs.Unique.{token_forward}
use Rattle.lexicon.proofs.Pieces.{token_within}
use Rattle.layout.specs.Relaid.{ordinary}
use Rattle.layout.proofs.Cut.{sp_many}
use Rattle.layout.proofs.Path.{sp_full, ends_there}
use Rattle.layout.proofs.Fit.{colon, fitting}
use Rattle.layout.proofs.Carried.{On, Copied, just_at, on_at, exactly, copied, byte_on, gap_on, run_on, carries, turn_on, one_on, later_on}
use Rattle.layout.proofs.Values.{Lands, bad_on}

-- words and colons are ordinary bytes
word_ordinary : all_of ordinary word ≡ true
unfolding includes in_some
word_ordinary = refl

abbrev colons : Rule
colons = many (one (any_of ":"))

colons_ordinary : all_of ordinary colons ≡ true
unfolding includes in_some
colons_ordinary = refl

-- what a rule takes of ordinary bytes it takes of the same bytes in the other text
run_takes : (text other : List ℕ) (s t : ℕ) (run r : Rule) → all_of ordinary run ≡ true → {i j k : ℕ} → On text other s t i k → Takes text run i j →
    Takes text r i j → (c : Copied text other s t i j k) × Takes other r k c.dest
run_takes text other s t run r e o u v =
    let c = run_on text other s t o (all_of_lem ordinary u e) in
    (c, copied text other s t c (λ (l : List ℕ). Takes l r) (takes_moves r) v)

-- ---- the longest match of any rule

module _ (text other : List ℕ) (s t : ℕ) where
  here_on : (m : Lexeme) {i j k : ℕ} → On text other s t i k → Here text m i j → Lands text other s t (Here other m) j k
  here_on m {i} {j} {k} o h =
      let x = carries text other s t (fitting m).fits (just_at o) h.takes in
      let p = exactly text other s t x.2 in
      (x.0, record { takes = x.1; most = λ n u. no_longer p n u }, p)
    where
      no_longer : {l : ℕ} → On text other s t j l → (n : Lexeme) {x : ℕ} → Takes other (rule n) k x → x ≤ l
      no_longer p n u =
          let y = carries other text t s (fitting n).fits (just_at (turn_on o)) u in
          later_on p (turn_on (exactly other text t s y.2)) (h.most n y.1)

  colons_on : {i k : ℕ} (n : ℕ) → On text other s t i k → Colons text i n → Colons other k n × On text other s t (i + n) (k + n)
  colons_on {i} {k} n o c =
      let x = run_takes text other s t colons colons colons_ordinary o c.takes c.takes in
      let f : x.0.dest ≡ k + n = omega (arith, x.0.long) in
      let p = on_at text other s t refl f x.0.on in
      (record { takes = ending f x.1; most = λ u. no_longer p u }, p)
    where
      no_longer : {l : ℕ} → On text other s t (i + n) (k + n) → Takes other colons k l → l ≤ k + n
      no_longer p u =
          let y = run_takes other text t s colons colons colons_ordinary (turn_on o) u u in
          later_on p (turn_on y.0.on) (c.most y.1)

  -- a word is the same
  word_on : {i j k l : ℕ} → On text other s t i k → On text other s t j l → Takes text word i j → (h : Head) → Takes text (lit (head_word h)) i j →
      Takes other (lit (head_word h)) k l
  word_on o p u h v = let x = run_takes text other s t word (lit (head_word h)) word_ordinary o u v in ending (one_on x.0.on p) x.1

-- ---- what a token of a kind is

module _ (text other : List ℕ) (s t : ℕ) where
  first_colon_lem : {i e : ℕ} → Takes text colons i e → i < e → At text ordinary i
  first_colon_lem (stop e) h = absurd (omega (arith, e, h))
  first_colon_lem {i} (more (byte a e) u) h = (a.0, colon.into (get_or text i 0) a.1)

  -- the first of some colons
  colon_on : {i j k : ℕ} (n : ℕ) → 0 < n → j ≡ i + 1 → On text other s t i k → Colons text i n → On text other s t j (k + 1)
  colon_on n h e o c = on_at text other s t (sym e) refl (byte_on text other s t o (first_colon_lem c.takes (omega (arith, h)))).on

  sign_on : {i j k : ℕ} → On text other s t i k → Here text an_integer i j → get_or text i 0 ≡ get_or other k 0
  unfolding opens includes in_some
  sign_on o h = (byte_on text other s t o (opens_at text ordinary integer refl h.takes)).equal

  told_on : (kind : Kind) {i j k : ℕ} → On text other s t i k → Told text kind i j → Lands text other s t (Told other kind) j k
  told_on Ignorance o h = here_on text other s t an_ignorance o h
  told_on (Boolean b) o h = here_on text other s t (a_boolean b) o h
  told_on (Integer signed) o h = let x = here_on text other s t an_integer o h.0 in (x.0, (x.1, h.1 ∙ ap (has plus_minus) (sign_on o h.0)), x.2)
  told_on Fraction o h = here_on text other s t a_fraction o h
  told_on Bits o h = here_on text other s t a_bits o h
  told_on Blob o h = here_on text other s t a_blob o h
  told_on (Text Quoted) o h = here_on text other s t a_quoted o h
  told_on (Text Word) o h =
      let x = here_on text other s t a_word o h.0 in
      (x.0, (x.1, λ w u. h.1 w (word_on other text t s (turn_on o) (turn_on x.2) x.1.takes w u)), x.2)
  told_on (Text (HeadWord w)) o h = let x = here_on text other s t a_word o h.0 in (x.0, (x.1, word_on text other s t o x.2 h.0.takes w h.1), x.2)
  told_on (Text CodePoint) o h = here_on text other s t a_code_point o h
  told_on Later o h = here_on text other s t a_later o h
  told_on (Symbol x) o h = here_on text other s t (a_symbol x) o h
  told_on Colon {k = k} o (e, inl c) = (k + 1, (refl, inl (colons_on text other s t 1 o c).0), colon_on 1 (omega arith) e o c)
  told_on Colon {k = k} o (e, inr c) = (k + 1, (refl, inr (colons_on text other s t 3 o c).0), colon_on 3 (omega arith) e o c)
  told_on TwoColons {k = k} o (e, c) = let x = colons_on text other s t 2 o c in (k + 2, (refl, x.0), on_at text other s t (sym e) refl x.1)

  -- ---- dividing space before it

  full_skips : {bytes : List ℕ} {i j : ℕ} → Longest bytes sp i j → Skips bytes i j
  full_skips g = skips (sp_many g.takes) (sp_full g)

  -- where no blank begins, none begins in the other text
  no_blank_on : {i k : ℕ} → On text other s t i k → Fails text blank i → Fails other blank k
  no_blank_on {i} o f = record { none = λ b. go (gap_on other text t s (turn_on o) (both b (stop refl))).instead.takes }
    where
      go : {j : ℕ} → Takes text sp i j → ⊥
      go (both b u) = f.none b

  skips_on : {i j k : ℕ} → On text other s t i k → Skips text i j → Lands text other s t (Skips other) j k
  skips_on {i} {j} {k} o x = go x.takes
    where
      go : Takes text (opt sp) i j → Lands text other s t (Skips other) j k
      go (left u) =
          let g = gap_on text other s t o u in
          (g.dest, full_skips g.instead, on_at text other s t (skips_same (full_skips g.whole) x) refl g.on)
      go (right (nothing e)) =
          (k, skips (stop refl) (no_blank_on o (subst (Fails text blank) (sym e) (skips_fails x))), on_at text other s t e refl o)

  -- ---- what comes next

  -- a token of the other text, at the places that stand for this one's
  abbrev moved : Token.Token → ℕ → ℕ → Token.Token
  moved u k l = record { kind = u.kind; first = k; end = l; bad = u.bad }

  pub record There (u : Token.Token) (k : ℕ) : Type 0 where
    pub first : ℕ
    pub end : ℕ
    pub comes : Comes other k (Next.Token (moved u first end))
    pub first_on : On text other s t u.first first
    pub end_on : On text other s t u.end end

  pub comes_on : {i k : ℕ} {u : Token.Token} → On text other s t i k → Comes text i (Next.Token u) → There u k
  comes_on {u = u} o c =
      let x = skips_on o c.0 in
      let y = told_on u.kind x.2 c.2.told in
      let is : Is other u.kind x.0 y.0 = record { told = y.1 } in
      record {
        first = x.0;
        end = y.0;
        comes = (
          x.1,
          omega (arith, token_forward other is, token_within other u.kind is),
          is,
          record {
            true_holds = λ e. bad_on text other s t u.kind x.2 y.2 (c.3.true_holds e);
            holds_true = λ b. c.3.holds_true (bad_on other text t s u.kind (turn_on x.2) (turn_on y.2) b);
          },
        );
        first_on = x.2;
        end_on = y.2;
      }

  pub end_on : {i k n : ℕ} → On text other s t i k → Comes text i (Next.End n) → Comes other k (Next.End (length other))
  end_on o c =
      let x = skips_on o c.2 in
      (refl, x.0, x.1, omega (arith, ends_there c.3 x.2.ahead))
