-- Where a reader stands, without the tokens that it read: how many brackets stand open, the place, and the machine's configuration.
-- Each kind of token leads on or is the first fault. Assumes nothing.
use mathlib.Core.Path.{◌≡◌, refl, sym, ap, subst, ◌∙◌}
use mathlib.Core.Bool.{Bool, true, false, false≢true}
use mathlib.Core.List.{List, [], ◌∷◌, ◌++◌, append-nil}
use mathlib.Core.Option.{none, some}
use Prim.Native.Nat.{ℕ, suc, pred, ◌≤◌, ◌<◌}
use native.Mathlib.Omega.{arith}
use lib.ListN.{length}
use Rattle.rules.proofs.Bools.{clash, not_both}
use Rattle.lexicon.specs.declared.Head.{Head}
use Rattle.lexicon.specs.declared.Form.TheVariants as Form
use Rattle.lexicon.specs.declared.Sign.TheVariants as Sign
use Rattle.lexicon.specs.declared.Kind.{Kind}
use Rattle.lexicon.specs.declared.Token as Token
use Rattle.lexicon.specs.declared.Next.TheVariants as Next
use Rattle.lexicon.specs.Front.{Front}
use Rattle.lexicon.specs.Token.{BadPlace, Comes, Bad}
use Rattle.grammar.specs.Tokens
use Rattle.grammar.specs.Tokens.{Tok, tok, Mark, Class, atom, text, names, round, curly, square, mark, later, spelled, head_word, class_kind}
use Rattle.grammar.specs.Tree.{Value}
use Rattle.grammar.specs.Level.{Level, intervals, has_head}
use Rattle.grammar.specs.Place.{Beyond, newer_head, newer_bracket, later_literal}
use Rattle.grammar.proofs.Frames.{Stack, Config, want, have}
use Rattle.grammar.proofs.Machine.{step}
use Rattle.grammar.proofs.Accepts.{reached, accepts}
use Rattle.grammar.proofs.Viable.{Wants, wants, wants_value}
use Rattle.grammar.proofs.FirstNewer.{wanting, is_beyond, beyond_holds}
use Rattle.reading.specs.declared.Limits.{Limits}
use Rattle.reading.specs.Tokens.{seen, Follow, nothing, next, open_mark, open_behind, open_from, opened}
use Rattle.reading.specs.Faults.{NewerAt, Retired, TooDeep, FirstFault, AllPassed}
use Rattle.reading.specs.Answers.{Accepted}
use Rattle.reading.proofs.Decide.{whole, final_whole, is_arrow, not_arrow}
use Rattle.reading.proofs.Stands.{may_begin, Stands, at_front, not_by_class, not_by_place, goes_on_lem, no_token_lem, wrong_place, wrong_end_lem, newer_form, arrow_retired, bad_value, too_deep}

-- ---- classes

-- a literal, a Text or `::`
abbrev pub plain : Class → Bool
plain (atom a) = true
plain (text w) = true
plain names = true
plain round = false
plain curly = false
plain square = false
plain (mark m) = false
plain later = false

-- an opening bracket
abbrev pub opens : Class → Bool
opens (atom a) = false
opens (text w) = false
opens names = false
opens round = true
opens curly = true
opens square = true
opens (mark m) = false
opens later = false

-- the class tells the kind
abbrev kind_mark : Mark → Kind
kind_mark Tokens.round_close = Kind.Symbol Sign.RoundClose
kind_mark Tokens.curly_close = Kind.Symbol Sign.CurlyClose
kind_mark Tokens.square_close = Kind.Symbol Sign.SquareClose
kind_mark Tokens.comma = Kind.Symbol Sign.Comma
kind_mark Tokens.colon = Kind.Colon
kind_mark Tokens.right_arrow = Kind.Symbol Sign.ArrowRight
kind_mark Tokens.left_arrow = Kind.Symbol Sign.ArrowLeft
kind_mark Tokens.dots = Kind.Symbol Sign.Dots
kind_mark (Tokens.star a b) = Kind.Symbol (Sign.Star a b)

abbrev pub kind_of : Class → Kind
kind_of (atom Tokens.ignorance) = Kind.Ignorance
kind_of (atom (Tokens.boolean b)) = Kind.Boolean b
kind_of (atom (Tokens.integer b)) = Kind.Integer b
kind_of (atom Tokens.fraction) = Kind.Fraction
kind_of (atom Tokens.bits) = Kind.Bits
kind_of (atom Tokens.blob) = Kind.Blob
kind_of (text (spelled Tokens.quoted)) = Kind.Text Form.Quoted
kind_of (text (spelled Tokens.word)) = Kind.Text Form.Word
kind_of (text (spelled Tokens.code_point_of)) = Kind.Text Form.CodePoint
kind_of (text (head_word h)) = Kind.Text (Form.HeadWord h)
kind_of names = Kind.TwoColons
kind_of round = Kind.Symbol Sign.RoundOpen
kind_of curly = Kind.Symbol Sign.CurlyOpen
kind_of square = Kind.Symbol Sign.SquareOpen
kind_of (mark m) = kind_mark m
kind_of later = Kind.Later

kind_class : (k : Kind) → kind_of (class_kind k) ≡ k
kind_class Kind.Ignorance = refl
kind_class (Kind.Boolean b) = refl
kind_class (Kind.Integer b) = refl
kind_class Kind.Fraction = refl
kind_class Kind.Bits = refl
kind_class Kind.Blob = refl
kind_class (Kind.Text Form.Quoted) = refl
kind_class (Kind.Text Form.Word) = refl
kind_class (Kind.Text (Form.HeadWord h)) = refl
kind_class (Kind.Text Form.CodePoint) = refl
kind_class Kind.Later = refl
kind_class (Kind.Symbol Sign.RoundOpen) = refl
kind_class (Kind.Symbol Sign.RoundClose) = refl
kind_class (Kind.Symbol Sign.CurlyOpen) = refl
kind_class (Kind.Symbol Sign.CurlyClose) = refl
kind_class (Kind.Symbol Sign.SquareOpen) = refl
kind_class (Kind.Symbol Sign.SquareClose) = refl
kind_class (Kind.Symbol Sign.Comma) = refl
kind_class (Kind.Symbol Sign.ArrowRight) = refl
kind_class (Kind.Symbol Sign.ArrowLeft) = refl
kind_class (Kind.Symbol Sign.Dots) = refl
kind_class (Kind.Symbol (Sign.Star a b)) = refl
kind_class Kind.Colon = refl
kind_class Kind.TwoColons = refl

pub class_kind_lem : (k : Kind) {c : Class} → class_kind k ≡ c → k ≡ kind_of c
class_kind_lem k e = sym (kind_class k) ∙ ap kind_of e

-- ---- values that may be bad

abbrev pub may_be_bad : Kind → Bool
may_be_bad Kind.Ignorance = false
may_be_bad (Kind.Boolean b) = false
may_be_bad (Kind.Integer b) = false
may_be_bad Kind.Fraction = true
may_be_bad Kind.Bits = false
may_be_bad Kind.Blob = true
may_be_bad (Kind.Text Form.Quoted) = true
may_be_bad (Kind.Text Form.Word) = false
may_be_bad (Kind.Text (Form.HeadWord h)) = false
may_be_bad (Kind.Text Form.CodePoint) = true
may_be_bad Kind.Later = false
may_be_bad (Kind.Symbol s) = false
may_be_bad Kind.Colon = false
may_be_bad Kind.TwoColons = false

bad_kind : (bytes : List ℕ) (k : Kind) (i j : ℕ) → Bad bytes k i j → may_be_bad k ≡ true
bad_kind bytes Kind.Ignorance i j b = absurd b
bad_kind bytes (Kind.Boolean v) i j b = absurd b
bad_kind bytes (Kind.Integer v) i j b = absurd b
bad_kind bytes Kind.Fraction i j b = refl
bad_kind bytes Kind.Bits i j b = absurd b
bad_kind bytes Kind.Blob i j b = refl
bad_kind bytes (Kind.Text Form.Quoted) i j b = refl
bad_kind bytes (Kind.Text Form.Word) i j b = absurd b
bad_kind bytes (Kind.Text (Form.HeadWord h)) i j b = absurd b
bad_kind bytes (Kind.Text Form.CodePoint) i j b = refl
bad_kind bytes Kind.Later i j b = absurd b
bad_kind bytes (Kind.Symbol s) i j b = absurd b
bad_kind bytes Kind.Colon i j b = absurd b
bad_kind bytes Kind.TwoColons i j b = absurd b

-- a sign is no such value
mark_good : (m : Mark) → may_be_bad (kind_mark m) ≡ false
mark_good Tokens.round_close = refl
mark_good Tokens.curly_close = refl
mark_good Tokens.square_close = refl
mark_good Tokens.comma = refl
mark_good Tokens.colon = refl
mark_good Tokens.right_arrow = refl
mark_good Tokens.left_arrow = refl
mark_good Tokens.dots = refl
mark_good (Tokens.star a b) = refl

opens_good : (c : Class) → opens c ≡ true → may_be_bad (kind_of c) ≡ false
opens_good (atom a) e = absurd (false≢true e)
opens_good (text w) e = absurd (false≢true e)
opens_good names e = absurd (false≢true e)
opens_good round e = refl
opens_good curly e = refl
opens_good square e = refl
opens_good (mark m) e = absurd (false≢true e)
opens_good later e = absurd (false≢true e)

-- ---- open brackets

pub open_from_one : (n : ℕ) (ts : List Tok) (t : Tok) → open_from n (ts ++ (t ∷ [])) ≡ open_behind t.class (open_from n ts)
open_from_one n [] t = refl
open_from_one n (u ∷ ts) t = open_from_one (open_behind u.class n) ts t

same_less : (n : ℕ) → n ≤ n
same_less n = omega arith

pred_less : (n : ℕ) → pred n ≤ n
pred_less n = omega arith

mark_less : (m : Mark) (n : ℕ) → open_mark m n ≤ n
mark_less Tokens.round_close n = pred_less n
mark_less Tokens.curly_close n = pred_less n
mark_less Tokens.square_close n = pred_less n
mark_less Tokens.comma n = same_less n
mark_less Tokens.colon n = same_less n
mark_less Tokens.right_arrow n = same_less n
mark_less Tokens.left_arrow n = same_less n
mark_less Tokens.dots n = same_less n
mark_less (Tokens.star a b) n = same_less n

plain_same : (c : Class) (n : ℕ) → plain c ≡ true → open_behind c n ≡ n
plain_same (atom a) n e = refl
plain_same (text w) n e = refl
plain_same names n e = refl
plain_same round n e = absurd (false≢true e)
plain_same curly n e = absurd (false≢true e)
plain_same square n e = absurd (false≢true e)
plain_same (mark m) n e = absurd (false≢true e)
plain_same later n e = absurd (false≢true e)

opens_more : (c : Class) (n : ℕ) → opens c ≡ true → open_behind c n ≡ suc n
opens_more (atom a) n e = absurd (false≢true e)
opens_more (text w) n e = absurd (false≢true e)
opens_more names n e = absurd (false≢true e)
opens_more round n e = refl
opens_more curly n e = refl
opens_more square n e = refl
opens_more (mark m) n e = absurd (false≢true e)
opens_more later n e = absurd (false≢true e)

plain_known : (c : Class) → plain c ≡ true → may_begin c ≡ false
plain_known (atom a) e = refl
plain_known (text w) e = refl
plain_known names e = refl
plain_known round e = absurd (false≢true e)
plain_known curly e = refl
plain_known square e = absurd (false≢true e)
plain_known (mark m) e = refl
plain_known later e = absurd (false≢true e)

plain_arrow : (c : Class) → plain c ≡ true → is_arrow c ≡ false
plain_arrow (atom a) e = refl
plain_arrow (text w) e = refl
plain_arrow names e = refl
plain_arrow round e = refl
plain_arrow curly e = refl
plain_arrow square e = refl
plain_arrow (mark m) e = absurd (false≢true e)
plain_arrow later e = refl

opens_arrow : (c : Class) → opens c ≡ true → is_arrow c ≡ false
opens_arrow (atom a) e = refl
opens_arrow (text w) e = refl
opens_arrow names e = refl
opens_arrow round e = refl
opens_arrow curly e = refl
opens_arrow square e = refl
opens_arrow (mark m) e = absurd (false≢true e)
opens_arrow later e = refl

-- ---- configurations

wants_stack : {c : Config} → ((K : Stack) → c ≡ want K → ⊥) → Wants c → ⊥
wants_stack h (wants K) = h K refl

-- the premise of `not_here` for a configuration that computes
pub not_wanting : {c : Config} → wanting (some c) ≡ false → (K : Stack) → c ≡ want K → ⊥
not_wanting {c} e K h = clash (ap (λ (x : Config). wanting (some x)) h) e

module _ (limits : Limits) (l : Level) (bytes : List ℕ) where
  pub record At (d p : ℕ) (c : Config) : Type 0 where
    pub tokens : List Tok
    pub stands : Stands limits l bytes tokens p c
    pub deep : opened tokens ≡ d

  pub at_start : {p : ℕ} → Front bytes p → At 0 p (want [])
  at_start f = record { tokens = []; stands = at_front limits l bytes f; deep = refl }

  pub never_bad : {p : ℕ} (t : Token.Token) → Comes bytes p (Next.Token t) → may_be_bad t.kind ≡ false → t.bad ≡ false
  never_bad t k e = by t.bad refl
    where
      by : (b : Bool) → t.bad ≡ b → t.bad ≡ false
      by true h = absurd (clash (bad_kind bytes t.kind t.first t.end (k.3.true_holds h)) e)
      by false h = h

  -- ---- no newer form

  pub curly_known : {d p : ℕ} {c : Config} (a : At d p c) (t : Token.Token) → class_kind t.kind ≡ curly → NewerAt l bytes a.tokens t → ⊥
  curly_known a t e n = not_by_class limits l bytes t (ap may_begin e) n

  -- what the class tells of a newer form
  beyond_of : {ts : List Tok} {t : Token.Token} {k : Class} → class_kind t.kind ≡ k → (n : NewerAt l bytes ts t) →
      is_beyond l (tok k (record { first = t.first; end = t.end }) ∷ n.ahead) ≡ true
  beyond_of {ts} {t} e n =
      subst (λ (k : Class). is_beyond l (tok k (record { first = t.first; end = t.end }) ∷ n.ahead) ≡ true) e (beyond_holds l n.newer.beyond)

  pub square_known : {d p : ℕ} {c : Config} (a : At d p c) (t : Token.Token) → class_kind t.kind ≡ square → l intervals ≡ true →
      NewerAt l bytes a.tokens t → ⊥
  square_known a t e h n = not_both (l intervals) h (beyond_of {t = t} e n)

  -- a head that the level lacks, and its `:`
  record Lacks (x y : Tok) : Type 0 where
    head : Head
    word : x.class ≡ text (head_word head)
    sign : y.class ≡ mark Tokens.colon
    lacks : has_head l head ≡ false

  begins_head : {t x y : Tok} {ts : List Tok} → Beyond l (t ∷ x ∷ y ∷ ts) → t.class ≡ round → Lacks x y
  begins_head (newer_head {h = h} e) r = record { head = h; word = refl; sign = refl; lacks = e }
  begins_head (newer_bracket e) r = let z : ◌≡◌ {A = ℕ} 0 1 = cc in absurd (omega arith)
  begins_head later_literal r = let z : ◌≡◌ {A = ℕ} 0 1 = cc in absurd (omega arith)

  pub round_known : {d p : ℕ} {c : Config} (a : At d p c) (t : Token.Token) → class_kind t.kind ≡ round →
      ((u w : Token.Token) (h : Head) → Comes bytes t.end (Next.Token u) → u.kind ≡ Kind.Text (Form.HeadWord h) →
      Comes bytes u.end (Next.Token w) → w.kind ≡ Kind.Colon → has_head l h ≡ true) →
      NewerAt l bytes a.tokens t → ⊥
  round_known a t e h n = by n.follow n.newer.beyond (beyond_of {t = t} e n)
    where
      by : {ts : List Tok} {q : ℕ} → Follow bytes t.end ts q → Beyond l (seen t ∷ ts) → is_beyond l (tok round (seen t).at ∷ ts) ≡ true → ⊥
      by nothing b x = false≢true x
      by (next k nothing) b x = false≢true x
      by (next {t = u} k (next {t = w} m f)) b x =
          let y = begins_head b e in
          clash (h u w y.head k (class_kind_lem u.kind y.word) m (class_kind_lem w.kind y.sign)) y.lacks

  -- ---- on

  on : {d p n : ℕ} {c c' : Config} (a : At d p c) (t : Token.Token) → Comes bytes p (Next.Token t) → (NewerAt l bytes a.tokens t → ⊥) →
      step l c (seen t) ≡ some c' → (Retired limits t → ⊥) → t.bad ≡ false → (TooDeep limits a.tokens t → ⊥) →
      open_behind (class_kind t.kind) d ≡ n → At n t.end c'
  on {d} {p} {n} {c} {c'} a t k v e r b h g =
      record {
        tokens = a.tokens ++ (seen t ∷ []);
        stands = goes_on_lem limits l bytes a.stands k v e r b h;
        deep = open_from_one 0 a.tokens (seen t) ∙ ap (open_behind (class_kind t.kind)) a.deep ∙ g;
      }

  -- a token that opens no bracket is not too deep
  not_deeper : {ts : List Tok} (t : Token.Token) → open_behind (class_kind t.kind) (opened ts) ≤ opened ts → TooDeep limits ts t → ⊥
  not_deeper {ts} t h x = omega (arith, h, open_from_one 0 ts (seen t), x.deeper)

  pub sign_on : {d p : ℕ} {c c' : Config} → At d p c → (t : Token.Token) → Comes bytes p (Next.Token t) → (m : Mark) → class_kind t.kind ≡ mark m →
      (Retired limits t → ⊥) → step l c (seen t) ≡ some c' → At (open_mark m d) t.end c'
  sign_on {d} a t k m e r s =
      on a t k (λ n. not_by_class limits l bytes t (ap may_begin e) n) s r (never_bad t k (ap may_be_bad (class_kind_lem t.kind e) ∙ mark_good m))
      (λ x. not_deeper t (subst (λ (y : Class). open_behind y (opened a.tokens) ≤ opened a.tokens) (sym e) (mark_less m (opened a.tokens))) x)
      (ap (λ (y : Class). open_behind y d) e)

  pub literal_on : {d p : ℕ} {c c' : Config} → At d p c → (t : Token.Token) → Comes bytes p (Next.Token t) → plain (class_kind t.kind) ≡ true →
      t.bad ≡ false → step l c (seen t) ≡ some c' → At d t.end c'
  literal_on {d} a t k e b s =
      on a t k (λ n. not_by_class limits l bytes t (plain_known (class_kind t.kind) e) n) s (λ r. not_arrow t (plain_arrow (class_kind t.kind) e) r) b
      (λ x. not_deeper t (omega (arith, plain_same (class_kind t.kind) (opened a.tokens) e)) x)
      (plain_same (class_kind t.kind) d e)

  bracket_good : {p : ℕ} (t : Token.Token) → Comes bytes p (Next.Token t) → opens (class_kind t.kind) ≡ true → t.bad ≡ false
  bracket_good t k e = never_bad t k (ap may_be_bad (class_kind_lem t.kind refl) ∙ opens_good (class_kind t.kind) e)

  -- the brackets that stand open behind one more
  one_more_lem : (ts : List Tok) (t : Token.Token) → opens (class_kind t.kind) ≡ true → opened (ts ++ (seen t ∷ [])) ≡ suc (opened ts)
  one_more_lem ts t e = open_from_one 0 ts (seen t) ∙ opens_more (class_kind t.kind) (opened ts) e

  pub open_on : {d p : ℕ} {c c' : Config} (a : At d p c) (t : Token.Token) → Comes bytes p (Next.Token t) → opens (class_kind t.kind) ≡ true →
      (NewerAt l bytes a.tokens t → ⊥) → d < limits.depth → step l c (seen t) ≡ some c' → At (suc d) t.end c'
  open_on {d} a t k e v h s =
      on a t k v s (λ r. not_arrow t (opens_arrow (class_kind t.kind) e) r) (bracket_good t k e) (λ x. omega (arith, one_more_lem a.tokens t e, a.deep, h, x.beyond)) (opens_more (class_kind t.kind) d e)

  -- ---- the refusals

  pub none_here : {d p : ℕ} {c : Config} → At d p c → (q : ℕ) → Comes bytes p (Next.NoToken q) → FirstFault limits l bytes 4 q
  none_here a q k = no_token_lem limits l bytes a.stands k

  pub sign_wrong : {d p : ℕ} {c : Config} → At d p c → (t : Token.Token) → Comes bytes p (Next.Token t) → (m : Mark) → class_kind t.kind ≡ mark m →
      step l c (seen t) ≡ none → FirstFault limits l bytes 6 t.first
  sign_wrong a t k m e s = wrong_place limits l bytes a.stands k (λ n. not_by_class limits l bytes t (ap may_begin e) n) s

  pub not_here : {d p : ℕ} {c : Config} → At d p c → (t : Token.Token) → Comes bytes p (Next.Token t) → ((K : Stack) → c ≡ want K → ⊥) →
      step l c (seen t) ≡ none → FirstFault limits l bytes 6 t.first
  not_here a t k h s = wrong_place limits l bytes a.stands k (λ n. not_by_place limits l bytes a.stands (λ w. wants_stack h w) t n) s

  pub end_here : {d p : ℕ} {c : Config} → At d p c → (q : ℕ) → Comes bytes p (Next.End q) → whole c ≡ false → FirstFault limits l bytes 6 q
  end_here a q k e = wrong_end_lem limits l bytes a.stands k (λ f. clash (final_whole f) e)

  -- a newer form where a value is wanted
  newer_here : {d p q : ℕ} {c : Config} {K : Stack} {ts : List Tok} → At d p c → c ≡ want K → (t : Token.Token) → Comes bytes p (Next.Token t) →
      Follow bytes t.end ts q → Beyond l (seen t ∷ ts) → FirstFault limits l bytes 7 t.first
  newer_here {q = q} {c = c} {K} {ts} a e t k f b =
      newer_form limits l bytes a.stands k
      (record {
        ahead = ts;
        end = q;
        follow = f;
        newer = record { beyond = b; place = wants_value l a.tokens (subst Wants (sym e) (wants K)) a.stands.reached (seen t).at };
      })

  pub later_here : {d p : ℕ} {c : Config} {K : Stack} → At d p c → c ≡ want K → (t : Token.Token) → Comes bytes p (Next.Token t) →
      t.kind ≡ Kind.Later → FirstFault limits l bytes 7 t.first
  later_here a e t k h = newer_here a e t k nothing (subst (λ (x : Kind). Beyond l (tok (class_kind x) (seen t).at ∷ [])) (sym h) later_literal)

  pub bracket_newer : {d p : ℕ} {c : Config} {K : Stack} → At d p c → c ≡ want K → (t : Token.Token) → Comes bytes p (Next.Token t) →
      class_kind t.kind ≡ square → l intervals ≡ false → FirstFault limits l bytes 7 t.first
  bracket_newer a e t k h i = newer_here a e t k nothing (subst (λ (x : Class). Beyond l (tok x (seen t).at ∷ [])) (sym h) (newer_bracket i))

  pub head_newer_lem : {d p : ℕ} {c : Config} {K : Stack} → At d p c → c ≡ want K → (t u w : Token.Token) (h : Head) →
      Comes bytes p (Next.Token t) → class_kind t.kind ≡ round → Comes bytes t.end (Next.Token u) → u.kind ≡ Kind.Text (Form.HeadWord h) →
      Comes bytes u.end (Next.Token w) → w.kind ≡ Kind.Colon → has_head l h ≡ false → FirstFault limits l bytes 7 t.first
  head_newer_lem a e t u w h k x k' x' k'' x'' i =
      newer_here a e t k (next k' (next k'' nothing))
      (subst (λ (y : Class). Beyond l (tok y (seen t).at ∷ seen u ∷ seen w ∷ [])) (sym x)
      (subst (λ (y : Kind). Beyond l (tok round (seen t).at ∷ tok (class_kind y) (seen u).at ∷ seen w ∷ [])) (sym x')
      (subst (λ (y : Kind). Beyond l (tok round (seen t).at ∷ tok (text (head_word h)) (seen u).at ∷ tok (class_kind y) (seen w).at ∷ [])) (sym x'') (newer_head i))))

  pub retired_here : {d p : ℕ} {c c' : Config} → At d p c → (t : Token.Token) → Comes bytes p (Next.Token t) → Retired limits t →
      step l c (seen t) ≡ some c' → FirstFault limits l bytes 15 t.first
  retired_here a t k r s = arrow_retired limits l bytes a.stands k (λ n. not_by_class limits l bytes t (ap may_begin r.arrow) n) s r

  pub bad_here : {d p q : ℕ} {c c' : Config} → At d p c → (t : Token.Token) → Comes bytes p (Next.Token t) → plain (class_kind t.kind) ≡ true →
      t.bad ≡ true → BadPlace bytes t.kind t.first t.end q → step l c (seen t) ≡ some c' → FirstFault limits l bytes 5 q
  bad_here a t k e b o s = bad_value limits l bytes a.stands k (λ n. not_by_class limits l bytes t (plain_known (class_kind t.kind) e) n) s
      (λ r. not_arrow t (plain_arrow (class_kind t.kind) e) r) b o

  pub deep_here : {d p : ℕ} {c c' : Config} (a : At d p c) (t : Token.Token) → Comes bytes p (Next.Token t) → opens (class_kind t.kind) ≡ true →
      (NewerAt l bytes a.tokens t → ⊥) → limits.depth ≤ d → step l c (seen t) ≡ some c' → FirstFault limits l bytes 11 t.first
  deep_here a t k e v h s =
      let more = one_more_lem a.tokens t e in
      too_deep limits l bytes a.stands k v s (λ r. not_arrow t (opens_arrow (class_kind t.kind) e) r) (bracket_good t k e)
      (record { deeper = omega (arith, more); beyond = omega (arith, more, a.deep, h) })

  -- ---- the end of a whole value

  pub accepted : {d p : ℕ} {v : Value} → At d p (have v []) → (q : ℕ) → Comes bytes p (Next.End q) →
      Accepted limits bytes l v × (q ≡ length bytes)
  accepted {d} {p} {v} a q k =
      let g = reached l a.tokens (have v []) a.stands.reached in
      let all : AllPassed limits l bytes a.tokens =
      record { from = p; good = a.stands.good; at_end = (refl, k.1, k.2, k.3); ends = λ w. w.none (accepts l a.tokens v a.stands.reached) } in
      (record { of_level = g.level; passed = subst (AllPassed limits l bytes) (sym (g.reads [] ∙ append-nil a.tokens)) all }, k.0)
