-- A text is cut into its pieces in one way: no byte begins two kinds of pieces, quotes end at the next mark, and a stretch of dividing space is
-- taken at its full length. So what is alike to a text begins with a piece of the same kind. Assumes nothing.
use mathlib.Core.Path.{◌≡◌, refl, sym, ap, subst, ◌∙◌}
use mathlib.Core.Bool.{true, false}
use mathlib.Core.List.{List, [], ◌∷◌, ◌++◌, head-eq_of_cons-eq, tail-eq_of_cons-eq}
use Prim.Native.Nat.{ℕ, ◌-◌, ◌≤◌}
use native.Mathlib.Omega.{arith}
use lib.ListN.{length, get_or, take, drop, length-append, length-drop}
use lib.Seq.{get_or-drop, take_at, take-append_seam, drop_at, drop-append_seam}
use Rattle.rules.specs.Class.{Class, In}
use Rattle.rules.specs.Rule.{Rule, one, ◌then◌, many, At, Takes, byte, both, more, Longest, Fails}
use Rattle.rules.specs.Plain.{Matches}
use Rattle.rules.specs.Every.{Every, none, also}
use Rattle.rules.proofs.Classes.{apart, apart_span}
use Rattle.rules.proofs.Matches.{inside, starting, ending, longest_same}
use Rattle.rules.proofs.Plain.{plain, placed, between_stands}
use Rattle.rules.proofs.Bounds.{all_of_lem}
use Rattle.rules.proofs.Windows.{Window, moved}
use Rattle.rules.proofs.Chains.{Single, longest}
use Rattle.rules.proofs.Closed.{closed_single}
use Rattle.rules.proofs.Ways.{nullable, never, never_takes, end_takes}
use Rattle.lexicon.specs.Space.{blank, sp}
use Rattle.lexicon.specs.Literals.{segment}
use Rattle.lexicon.proofs.Spaces.{byte_single, blank_single}
use Rattle.lexicon.proofs.Segments.{quote_not, content_bytes}
use Rattle.layout.specs.Relaid.{quote, not_quote, quotes, ordinary, Alike, ends, same_byte, same_quotes, stretch}

-- ---- what a byte begins

pub ordinary_blank : never ordinary blank ≡ true
unfolding never apart apart_span
ordinary_blank = refl

pub ordinary_sp : never ordinary sp ≡ true
unfolding never apart apart_span
ordinary_sp = refl

pub ordinary_quotes : never ordinary quotes ≡ true
unfolding never apart apart_span
ordinary_quotes = refl

pub quote_sp : never quote sp ≡ true
unfolding never apart apart_span
quote_sp = refl

-- the same of two texts that are given in another way
pub other_way : {a b s t : List ℕ} → a ≡ s → b ≡ t → Alike a b → Alike s t
other_way {b = b} {s = s} e f x = subst (Alike s) f (subst (λ (l : List ℕ). Alike l b) e x)

-- ---- a text from its front, and from a place on

-- what matches at the front of a text is taken of it
pub first_takes : {r : Rule} {a : List ℕ} → Matches r a → (s : List ℕ) → Takes (a ++ s) r 0 (length a)
first_takes {a = a} m s = ending (omega arith) (placed (a ++ s) m 0 s refl)

pub first_at_lem : (c : Class) (b : ℕ) (s : List ℕ) → In c b → At (b ∷ s) c 0
first_at_lem c b s i = (omega arith, i)

module _ (text : List ℕ) (i : ℕ) (h : i ≤ length text) where
  rest_window : Window text (drop i text) i 0 (length text - i)
  rest_window =
      record {
        from_within = omega (arith, h);
        to_within = omega (arith, length-drop i text);
        same = λ x k. sym (get_or-drop i text x 0) ∙ ap (λ (n : ℕ). get_or (drop i text) n 0) (omega arith);
      }

  rest_takes : {r : Rule} {k : ℕ} → Takes text r i k → Takes (drop i text) r 0 (k - i)
  rest_takes t =
      starting (omega arith) (ending (omega arith) (moved text (drop i text) i 0 (length text - i) rest_window t (omega arith) (omega (arith, h, inside t h))))

  pub fails_there : {r : Rule} → Fails (drop i text) r 0 → Fails text r i
  fails_there f = record { none = λ t. f.none (rest_takes t) }

-- and the other way round
pub fails_rest : (text : List ℕ) (i : ℕ) {r : Rule} → Fails text r i → Fails (drop i text) r 0
fails_rest text i f = record { none = λ {k} t. f.none (placed text (plain (drop i text) t) i _ (between_stands (drop i text) 0 k)) }

-- two cuts of one text behind as many bytes
same_cut : (a b : List ℕ) {s t : List ℕ} → a ++ s ≡ b ++ t → length a ≡ length b → (a ≡ b) × (s ≡ t)
same_cut a b {s} {t} e l = (
  sym (take-append_seam a s) ∙ ap (take (length a)) e ∙ take_at b t (length a) (sym l),
  sym (drop-append_seam a s) ∙ ap (drop (length a)) e ∙ drop_at b t (length a) (sym l),
)

-- ---- quotes and stretches end in one place

pub quotes_single : (text : List ℕ) → Single text quotes
quotes_single text = record { same = go }
  where
    end : Single text (many (one not_quote) then one quote)
    end = closed_single (one not_quote) quote (byte_single not_quote) quote_not

    go : {i j k : ℕ} → Takes text quotes i j → Takes text quotes i k → j ≡ k
    go (both (byte a e) t) (both (byte b f) u) = end.same t (starting (f ∙ sym e) u)

-- a segment is such
pub segment_quotes : {text : List ℕ} {i j : ℕ} → Takes text segment i j → Takes text quotes i j
segment_quotes (both q (both u v)) = both q (both (all_of_lem not_quote u content_bytes) v)

quotes_begin : {text : List ℕ} {i j : ℕ} → Takes text quotes i j → At text quote i
quotes_begin (both (byte a e) t) = a

quotes_same : (q p : List ℕ) {s t : List ℕ} → Matches quotes q → Matches quotes p → q ++ s ≡ p ++ t → (q ≡ p) × (s ≡ t)
quotes_same q p {s} {t} m n e =
    same_cut q p e ((quotes_single (p ++ t)).same (subst (λ (l : List ℕ). Takes l quotes 0 (length q)) e (first_takes m s)) (first_takes n t))

-- dividing space is a row of blanks
pub sp_many : {text : List ℕ} {i j : ℕ} → Takes text sp i j → Takes text (many blank) i j
sp_many (both t u) = more t u

-- behind which no more begins
pub fails_behind : (a s : List ℕ) → Fails s blank 0 → Fails (a ++ s) blank (length a)
fails_behind a s f = fails_there (a ++ s) (length a) (omega (arith, length-append a s)) (subst (λ (l : List ℕ). Fails l blank 0) (sym (drop-append_seam a s)) f)

-- a stretch from the front on is all the dividing space there
full : {a : List ℕ} (s : List ℕ) → Matches sp a → Fails s blank 0 → Longest (a ++ s) (many blank) 0 (length a)
full {a} s m f = longest blank_single (sp_many (first_takes m s)) (fails_behind a s f)

stretch_same : (a b : List ℕ) {s t : List ℕ} → Matches sp a → Fails s blank 0 → Matches sp b → Fails t blank 0 → a ++ s ≡ b ++ t →
    (a ≡ b) × (s ≡ t)
stretch_same a b {s} {t} m f n g e =
    same_cut a b e (longest_same (subst (λ (l : List ℕ). Longest l (many blank) 0 (length a)) e (full s m f)) (full t n g))

-- ---- the first piece of a text that is alike to another

-- it begins with the same bytes, and what stands behind them is alike
pub record Begins (q s u : List ℕ) : Type 0 where
  pub rest : List ℕ
  pub is : u ≡ q ++ rest
  pub alike : Alike s rest

-- it begins with dividing space
pub record Spaced (s u : List ℕ) : Type 0 where
  pub space : List ℕ
  pub rest : List ℕ
  pub is : u ≡ space ++ rest
  pub matches : Matches sp space
  pub alike : Alike s rest

-- no text begins with a match of the rule and with a byte that begins none
clash : {r : Rule} {a : List ℕ} (c : Class) {t : List ℕ} (s : List ℕ) → never c r ≡ true → Matches r a → a ++ s ≡ t → At t c 0 → ⊥
clash {r} {a} c {t} s n m e h = never_takes t c r n h (subst (λ (l : List ℕ). Takes l r 0 (length a)) e (first_takes m s))

-- an empty text begins with no piece
no_piece : {r : Rule} {a : List ℕ} (s : List ℕ) → nullable r ≡ false → Matches r a → a ++ s ≡ [] → ⊥
no_piece {r} {a} s n m e = end_takes [] r n (omega arith) (subst (λ (l : List ℕ). Takes l r 0 (length a)) e (first_takes m s))

pub quote_first : {q : List ℕ} (s : List ℕ) → Matches quotes q → At (q ++ s) quote 0
quote_first s m = quotes_begin (first_takes m s)

-- an empty text is alike to itself alone
pub none_first : {t u : List ℕ} → Alike t u → t ≡ [] → u ≡ []
none_first ends e = refl
none_first (same_byte i a) e = absurd (omega (arith, ap length e))
none_first (same_quotes {s = s} m a) e = absurd (no_piece s refl m e)
none_first (stretch {s = s} m f n a) e = absurd (no_piece s refl m e)

pub byte_first : (b : ℕ) (s : List ℕ) {t u : List ℕ} → In ordinary b → Alike t u → t ≡ b ∷ s → Begins (b ∷ []) s u
byte_first b s i ends e = absurd (omega (arith, ap length e))
byte_first b s i (same_byte {t = t} j a) e =
    record {
      rest = t;
      is = ap (λ (x : ℕ). x ∷ t) (head-eq_of_cons-eq e);
      alike = subst (λ (l : List ℕ). Alike l t) (tail-eq_of_cons-eq e) a;
    }
byte_first b s i (same_quotes {s = s'} m a) e = absurd (clash ordinary s' ordinary_quotes m e (first_at_lem ordinary b s i))
byte_first b s i (stretch {s = s'} m f n a) e = absurd (clash ordinary s' ordinary_sp m e (first_at_lem ordinary b s i))

-- several of them
pub bytes_first : {bs : List ℕ} → Every (In ordinary) bs → (s : List ℕ) {t u : List ℕ} → Alike t u → t ≡ bs ++ s → Begins bs s u
bytes_first none s {u = u} a e = record { rest = u; is = refl; alike = subst (λ (l : List ℕ). Alike l u) e a }
bytes_first (also {x = b} {xs = bs} i o) s a e =
    let x = byte_first b (bs ++ s) i a e in
    let y = bytes_first o s x.alike refl in
    record { rest = y.rest; is = x.is ∙ ap (λ (l : List ℕ). b ∷ l) y.is; alike = y.alike }

pub quotes_first : {q : List ℕ} (s : List ℕ) {t u : List ℕ} → Matches quotes q → Alike t u → t ≡ q ++ s → Begins q s u
quotes_first s m ends e = absurd (no_piece s refl m (sym e))
quotes_first s m (same_byte {b = b} {s = s'} j a) e = absurd (clash ordinary s ordinary_quotes m (sym e) (first_at_lem ordinary b s' j))
quotes_first {q} s m (same_quotes {q = p} {t = t} n a) e =
    let o = quotes_same p q n m e in
    record { rest = t; is = ap (λ (l : List ℕ). l ++ t) o.0; alike = subst (λ (l : List ℕ). Alike l t) o.1 a }
quotes_first s m (stretch {s = s'} n f k a) e = absurd (clash quote s' quote_sp n e (quote_first s m))

pub stretch_first : {b : List ℕ} (s : List ℕ) {t u : List ℕ} → Matches sp b → Fails s blank 0 → Alike t u → t ≡ b ++ s → Spaced s u
stretch_first s m f ends e = absurd (no_piece s refl m (sym e))
stretch_first s m f (same_byte {b = b} {s = s'} j a) e = absurd (clash ordinary s ordinary_sp m (sym e) (first_at_lem ordinary b s' j))
stretch_first s m f (same_quotes {s = s'} n a) e = absurd (clash quote s quote_sp m (sym e) (quote_first s' n))
stretch_first {b} s m f (stretch {a = x} {b = y} {t = t} n g k a) e =
    record {
      space = y;
      rest = t;
      is = refl;
      matches = k;
      alike = subst (λ (l : List ℕ). Alike l t) (stretch_same x b n g m f e).1 a;
    }
