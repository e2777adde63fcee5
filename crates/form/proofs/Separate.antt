-- A token's bytes, standing in a text before what may follow them, are that token there. Assumes nothing.
use mathlib.Core.Path.{◌≡◌, refl, sym, subst, ap, ◌∙◌}
use mathlib.Core.Logic.{◌⊎◌, inl, inr, ⊎_elim}
use mathlib.Core.Bool.{Bool, true, false, not, false≢true}
use mathlib.Core.List.{List, [], ◌∷◌, ◌++◌}
use Prim.Native.Nat.{ℕ, zero, suc, ◌+◌, ◌-◌, ◌≤◌, ◌<◌}
use native.Mathlib.Nat.{add-zero}
use native.Mathlib.Omega.{arith}
use native.Mathlib.Decide.{dec_le}
use lib.ListN.{length, get_or, drop, length-drop}
use lib.Seq.{drop-drop}
use Rattle.rules.specs.Class.{Class, In, any_of, has, ◌upto◌}
use Rattle.rules.specs.Rule.{one, many, lit, Takes, byte, stop, more, At}
use Rattle.rules.proofs.Classes.{apart, apart_span, apart_no, includes, in_some, includes_in}
use Rattle.rules.proofs.Bools.{and_left, and_right, not_true}
use Rattle.rules.proofs.Plain.{byte_is, byte_stands}
use Rattle.rules.proofs.Ways.{nullable, never, covers, opens, opens_at, grows}
use Rattle.lexicon.specs.declared.Form.TheVariants.{Quoted, Word, HeadWord, CodePoint}
use Rattle.lexicon.specs.declared.Kind.{Kind}
use Rattle.lexicon.specs.declared.Kind.TheVariants.{Ignorance, Boolean, Integer, Fraction, Bits, Blob, Text, Later, Symbol, Colon, TwoColons}
use Rattle.lexicon.specs.declared.Sign.{Sign}
use Rattle.lexicon.specs.declared.Token as Token
use Rattle.lexicon.specs.declared.Next.TheVariants as Next
use Rattle.lexicon.specs.Space.{blank, Skips}
use Rattle.lexicon.specs.Literals.{plus_minus}
use Rattle.lexicon.specs.Symbols.{Colons, symbol}
use Rattle.lexicon.specs.Token.{Lexeme, an_ignorance, a_boolean, an_integer, a_fraction, a_bits, a_blob, a_quoted, a_word, a_code_point, a_later, a_symbol, rule, head_word, Here, Told, Is, Bad, Comes}
use Rattle.lexicon.proofs.Spaces.{landed_here}
use Rattle.lexicon.proofs.Tokens.{every, for_every}
use Rattle.form.proofs.Fits.{ink, all_in}
use Rattle.form.proofs.Amid.{byte_same, room, at_there, behind, there, alone, bad_alone}
use Rattle.form.proofs.Bounded.{inner, point, angle, walls, no_longer_sign, literal_here}
use Rattle.form.proofs.Signs.{goes_on, colon, sign_here, colons_one, colons_more, quoted_here, walled, ended, end_here}

-- ---- what may stand behind a token

-- the first bytes of closing brackets, comma, colons, and stars with a side
abbrev pub barrier : Class
barrier = any_of ")}],:<"

-- behind a literal or Text
pub data Closed : List ℕ → Type 0 where
  ends : Closed []
  wall : {b : ℕ} {r : List ℕ} → In barrier b → Closed (b ∷ r)
  dots : {r : List ℕ} → Closed (0x2E ∷ 0x2E ∷ r)
  arrow : {r : List ℕ} → Closed (0x2D ∷ 0x3E ∷ r)

-- nothing, or a byte that is not of the class
pub data Not (c : Class) : List ℕ → Type 0 where
  ends : Not c []
  other : {b : ℕ} {r : List ℕ} → (In c b → ⊥) → Not c (b ∷ r)

-- behind `:`, no colon, or two and no third
pub data AfterColon : List ℕ → Type 0 where
  single : {r : List ℕ} → Not colon r → AfterColon r
  triple : {r : List ℕ} → Not colon r → AfterColon (0x3A ∷ 0x3A ∷ r)

abbrev pub After : Kind → List ℕ → Type 0
After Ignorance r = Closed r
After (Boolean b) r = Closed r
After (Integer s) r = Closed r
After Fraction r = Closed r
After Bits r = Closed r
After Blob r = Closed r
After (Text f) r = Closed r
After Later r = Closed r
After (Symbol s) r = Not (goes_on s) r
After Colon r = AfterColon r
After TwoColons r = Not colon r

-- a literal is written without blanks; quoted Texts may hold any byte
abbrev pub inky : Kind → List ℕ → Bool
inky Ignorance bs = all_in inner bs
inky (Boolean b) bs = all_in inner bs
inky (Integer s) bs = all_in inner bs
inky Fraction bs = all_in inner bs
inky Bits bs = all_in inner bs
inky Blob bs = all_in inner bs
inky (Text Quoted) bs = true
inky (Text Word) bs = all_in inner bs
inky (Text (HeadWord h)) bs = all_in inner bs
inky (Text CodePoint) bs = all_in inner bs
inky Later bs = all_in inner bs
inky (Symbol s) bs = true
inky Colon bs = true
inky TwoColons bs = true

-- ---- computed

short_ignorance : no_longer_sign an_ignorance ≡ true
unfolding covers apart apart_span
short_ignorance = refl

short_boolean : (b : Bool) → no_longer_sign (a_boolean b) ≡ true
unfolding covers apart apart_span
short_boolean true = refl
short_boolean false = refl

short_integer : no_longer_sign an_integer ≡ true
unfolding covers apart apart_span
short_integer = refl

short_fraction : no_longer_sign a_fraction ≡ true
unfolding covers apart apart_span
short_fraction = refl

short_bits : no_longer_sign a_bits ≡ true
unfolding covers apart apart_span
short_bits = refl

short_blob : no_longer_sign a_blob ≡ true
unfolding covers apart apart_span
short_blob = refl

short_word : no_longer_sign a_word ≡ true
unfolding covers apart apart_span
short_word = refl

short_code : no_longer_sign a_code_point ≡ true
unfolding covers apart apart_span
short_code = refl

short_later : no_longer_sign a_later ≡ true
unfolding covers apart apart_span
short_later = refl

never_null : every (λ m. not (nullable (rule m))) ≡ true
never_null = refl

-- the bytes that begin a token begin no blank
abbrev start : Class
start = 0x22 upto 0x22 ∷ ink

all_start : every (λ m. opens start (rule m)) ≡ true
unfolding opens includes in_some
all_start = refl

start_blank : never start blank ≡ true
unfolding never apart apart_span
start_blank = refl

colon_blank : never colon blank ≡ true
unfolding never apart apart_span
colon_blank = refl

inner_ink : includes inner ink ≡ true
unfolding includes in_some
inner_ink = refl

walls_ink : includes walls ink ≡ true
unfolding includes in_some
walls_ink = refl

barrier_walls : includes barrier walls ≡ true
unfolding includes in_some
barrier_walls = refl

barrier_point : apart barrier point ≡ true
unfolding apart apart_span
barrier_point = refl

barrier_sign : apart barrier plus_minus ≡ true
unfolding apart apart_span
barrier_sign = refl

point_sign : apart point plus_minus ≡ true
unfolding apart apart_span
point_sign = refl

dot_point : In point 0x2E
unfolding has
dot_point = refl

dot_wall : In walls 0x2E
unfolding has
dot_wall = refl

minus_wall : In walls 0x2D
unfolding has
minus_wall = refl

minus_sign : In plus_minus 0x2D
unfolding has
minus_sign = refl

greater_angle : In angle 0x3E
unfolding has
greater_angle = refl

colon_colon : In colon 0x3A
unfolding has
colon_colon = refl

-- ---- bytes at a place

all_at : (c : Class) (bs : List ℕ) (x : ℕ) → all_in c bs ≡ true → x < length bs → In c (get_or bs x 0)
unfolding all_in
all_at c [] x e h = absurd (omega (arith, h))
all_at c (b ∷ bs) zero e h = and_left (has c b) _ e
all_at c (b ∷ bs) (suc x) e h = all_at c bs x (and_right (has c b) _ e) (omega (arith, h))

pub run_at : {text : List ℕ} {c : Class} {i n : ℕ} → Takes text (many (one c)) i n → (x : ℕ) → i ≤ x → x < n → At text c x
run_at (stop e) x h k = absurd (omega (arith, e, h, k))
run_at {text} {c} {i} {n} (more (byte a e) u) x h k = go (dec_le (i + 1) x) (λ q. run_at u x (omega (arith, q, e)) k)
  where
    go : Dec (i + 1 ≤ x) → (i + 1 ≤ x → At text c x) → At text c x
    go (yes q) f = f q
    go (no q) f = let g : i ≡ x = omega (arith, q, h) in subst (At text c) g a

module _ (text : List ℕ) where
  next_stands : (i : ℕ) {b : ℕ} {r : List ℕ} → drop i text ≡ b ∷ r → drop (i + 1) text ≡ r
  next_stands i e = sym (drop-drop 1 i text) ∙ ap (drop 1) e

  stands_not : {c : Class} (i : ℕ) {r : List ℕ} → drop i text ≡ r → Not c r → At text c i → ⊥
  stands_not i e ends a = omega (arith, length-drop i text, ap length e, a.0)
  stands_not {c} i e (other n) a = n (subst (In c) (byte_is text i e) a.1)

-- ---- one token

module _ (text bs y : List ℕ) (p : ℕ) (stands : drop p text ≡ bs ++ y) where
  some_bytes : (l : Lexeme) → Takes bs (rule l) 0 (length bs) → 0 < length bs
  some_bytes l t = grows (rule l) (not_true (nullable (rule l)) (for_every (λ m. not (nullable (rule m))) never_null l)) t

  -- at the end, or before a wall
  last_here : (l : Lexeme) → y ≡ [] → Takes bs (rule l) 0 (length bs) → Here text l p (p + length bs)
  last_here l e t =
      let h = some_bytes l t in
      let r = room text bs y p stands h in
      let b = ap length (behind text bs y p stands ∙ e) in
      end_here text l (omega (arith, length-drop (p + length bs) text, b)) (omega (arith, r)) (there text bs y p stands (rule l) t)

  wall_here : (l : Lexeme) → no_longer_sign l ≡ true → all_in inner bs ≡ true → At text walls (p + length bs) →
      (At text point (p + length bs) → At text point (p + length bs + 1)) →
      (At text plus_minus (p + length bs) → At text angle (p + length bs + 1)) →
      Takes bs (rule l) 0 (length bs) → Here text l p (p + length bs)
  wall_here l e f a d m t = literal_here text p (p + length bs) run a d m l e (there text bs y p stands (rule l) t)
    where
      run : (x : ℕ) → p ≤ x → x ≤ p + length bs → At text ink x
      run x h k = go (dec_le (p + length bs) x)
        where
          go : Dec (p + length bs ≤ x) → At text ink x
          go (yes q) = let g : p + length bs ≡ x = omega (arith, q, k) in subst (At text ink) g (a.0, includes_in walls ink _ walls_ink a.1)
          go (no q) =
              let g : x - p < length bs = omega (arith, q, h) in
              let z : p + (x - p) ≡ x = omega (arith, h) in (
                omega (arith, q, a.0),
                includes_in
                    inner ink _ inner_ink (subst (In inner) (sym (byte_same text bs y p stands (x - p) g) ∙ ap (λ (n : ℕ). get_or text n 0) z)
                    (all_at inner bs (x - p) f g)),
              )

  literal_there : (l : Lexeme) → no_longer_sign l ≡ true → all_in inner bs ≡ true → Closed y → Takes bs (rule l) 0 (length bs) → Here text l p (p + length bs)
  literal_there l e f c t = go c (behind text bs y p stands) (λ x. last_here l x t)
    where
      go : {z : List ℕ} → Closed z → drop (p + length bs) text ≡ z → (z ≡ [] → Here text l p (p + length bs)) → Here text l p (p + length bs)
      go ends g h = h refl
      go (wall i) g h =
          wall_here l e f (byte_stands text walls (p + length bs) (includes_in barrier walls _ barrier_walls i) g)
          (λ a. absurd (apart_no barrier point _ barrier_point i (subst (In point) (byte_is text (p + length bs) g) a.1)))
          (λ a. absurd (apart_no barrier plus_minus _ barrier_sign i (subst (In plus_minus) (byte_is text (p + length bs) g) a.1))) t
      go dots g h =
          wall_here l e f (byte_stands text walls (p + length bs) dot_wall g)
          (λ a. byte_stands text point (p + length bs + 1) dot_point (next_stands text (p + length bs) g))
          (λ a. absurd (apart_no point plus_minus _ point_sign dot_point (subst (In plus_minus) (byte_is text (p + length bs) g) a.1))) t
      go arrow g h =
          wall_here l e f (byte_stands text walls (p + length bs) minus_wall g)
          (λ a. absurd (apart_no point plus_minus _ point_sign (subst (In point) (byte_is text (p + length bs) g) a.1) minus_sign))
          (λ a. byte_stands text angle (p + length bs + 1) greater_angle (next_stands text (p + length bs) g)) t

  quoted_there : Closed y → Takes bs (rule a_quoted) 0 (length bs) → Here text a_quoted p (p + length bs)
  quoted_there c t = go c (behind text bs y p stands)
    where
      go : {z : List ℕ} → Closed z → drop (p + length bs) text ≡ z → Here text a_quoted p (p + length bs)
      go ends g = quoted_here text (ended text (omega (arith, length-drop (p + length bs) text, ap length g))) (there text bs y p stands (rule a_quoted) t)
      go (wall i) g = quoted_here text (walled text (byte_stands text walls (p + length bs) (includes_in barrier walls _ barrier_walls i) g))
          (there text bs y p stands (rule a_quoted) t)
      go dots g = quoted_here text (walled text (byte_stands text walls (p + length bs) dot_wall g)) (there text bs y p stands (rule a_quoted) t)
      go arrow g = quoted_here text (walled text (byte_stands text walls (p + length bs) minus_wall g)) (there text bs y p stands (rule a_quoted) t)

  sign_there : (s : Sign) → Not (goes_on s) y → Takes bs (symbol s) 0 (length bs) → Here text (a_symbol s) p (p + length bs)
  sign_there s n t = sign_here text s (λ a. stands_not text (p + length bs) (behind text bs y p stands) n a) (there text bs y p stands (symbol s) t)

  -- ---- colons

  behind_at : (n : ℕ) → length bs ≡ n → drop (p + n) text ≡ y
  behind_at n e = subst (λ (k : ℕ). drop (p + k) text ≡ y) e (behind text bs y p stands)

  colon_told : AfterColon y → Told bs Colon 0 (length bs) → Told text Colon p (p + length bs)
  colon_told c t = (omega (arith, t.0), go c (behind_at 1 t.0))
    where
      here : At text colon p
      here = subst (At text colon) (add-zero p)
          (at_there text bs y p stands colon 0
          (⊎_elim (λ u. run_at u.takes 0 (omega arith) (omega arith)) (λ u. run_at u.takes 0 (omega arith) (omega arith)) t.1))

      go : {z : List ℕ} → AfterColon z → drop (p + 1) text ≡ z → Colons text p 1 ⊎ Colons text p 3
      go (single n) e = inl (colons_one text here (λ a. stands_not text (p + 1) e n a))
      go (triple n) e =
          let f = next_stands text (p + 1) e in
          let g = next_stands text (p + 1 + 1) f in
          inr (colons_more text 2 here (colons_more text 1 (byte_stands text colon (p + 1) colon_colon e)
          (colons_one text (byte_stands text colon (p + 1 + 1) colon_colon f) (λ a. stands_not text (p + 1 + 1 + 1) g n a))))

  names_told : Not colon y → Told bs TwoColons 0 (length bs) → Told text TwoColons p (p + length bs)
  names_told n t = (
    omega (arith, t.0),
    colons_more text 1 first
        (colons_one text second (λ a. stands_not text (p + 2) (behind_at 2 t.0) n (subst (At text colon) (omega arith) a))),
  )
    where
      first : At text colon p
      first = subst (At text colon) (add-zero p) (at_there text bs y p stands colon 0 (run_at t.1.takes 0 (omega arith) (omega arith)))

      second : At text colon (p + 1)
      second = at_there text bs y p stands colon 1 (run_at t.1.takes 1 (omega arith) (omega arith))

  -- ---- any token

  told_there : (k : Kind) → inky k bs ≡ true → After k y → Told bs k 0 (length bs) → Told text k p (p + length bs)
  told_there Ignorance e c t = literal_there an_ignorance short_ignorance e c t.takes
  told_there (Boolean b) e c t = literal_there (a_boolean b) (short_boolean b) e c t.takes
  told_there (Integer s) e c t = (
    literal_there an_integer short_integer e c t.0.takes,
    t.1 ∙ ap (has plus_minus) (sym (byte_same text bs y p stands 0 (some_bytes an_integer t.0.takes)) ∙ ap (λ (n : ℕ). get_or text n 0) (add-zero p)),
  )
  told_there Fraction e c t = literal_there a_fraction short_fraction e c t.takes
  told_there Bits e c t = literal_there a_bits short_bits e c t.takes
  told_there Blob e c t = literal_there a_blob short_blob e c t.takes
  told_there (Text Quoted) e c t = quoted_there c t.takes
  told_there (Text Word) e c t = (literal_there a_word short_word e c t.0.takes, λ h u. t.1 h (alone text bs y p stands (lit (head_word h)) u))
  told_there (Text (HeadWord h)) e c t = (literal_there a_word short_word e c t.0.takes, there text bs y p stands (lit (head_word h)) t.1)
  told_there (Text CodePoint) e c t = literal_there a_code_point short_code e c t.takes
  told_there Later e c t = literal_there a_later short_later e c t.takes
  told_there (Symbol s) e c t = sign_there s c t.takes
  told_there Colon e c t = colon_told c t
  told_there TwoColons e c t = names_told c t

  -- no blank stands before it
  lexeme_skips : (l : Lexeme) {j : ℕ} → Takes text (rule l) p j → Skips text p p × (p < length text)
  lexeme_skips l t = let a = opens_at text start (rule l) (for_every (λ m. opens start (rule m)) all_start l) t in (landed_here start start_blank a, a.0)

  colon_skips : (n : ℕ) → 0 < n → Colons text p n → Skips text p p × (p < length text)
  colon_skips n h c = let a = run_at c.takes p (omega arith) (omega (arith, h)) in (landed_here colon colon_blank a, a.0)

  told_skips : (k : Kind) (j : ℕ) → Told text k p j → Skips text p p × (p < length text)
  told_skips Ignorance j t = lexeme_skips an_ignorance t.takes
  told_skips (Boolean b) j t = lexeme_skips (a_boolean b) t.takes
  told_skips (Integer s) j t = lexeme_skips an_integer t.0.takes
  told_skips Fraction j t = lexeme_skips a_fraction t.takes
  told_skips Bits j t = lexeme_skips a_bits t.takes
  told_skips Blob j t = lexeme_skips a_blob t.takes
  told_skips (Text Quoted) j t = lexeme_skips a_quoted t.takes
  told_skips (Text Word) j t = lexeme_skips a_word t.0.takes
  told_skips (Text (HeadWord h)) j t = lexeme_skips a_word t.0.takes
  told_skips (Text CodePoint) j t = lexeme_skips a_code_point t.takes
  told_skips Later j t = lexeme_skips a_later t.takes
  told_skips (Symbol s) j t = lexeme_skips (a_symbol s) t.takes
  told_skips Colon j t = ⊎_elim (λ c. colon_skips 1 (omega arith) c) (λ c. colon_skips 3 (omega arith) c) t.1
  told_skips TwoColons j t = colon_skips 2 (omega arith) t.1

  abbrev placed_token : Kind → Token.Token
  placed_token k = record { kind = k; first = p; end = p + length bs; bad = false }

  pub comes_there : (k : Kind) → inky k bs ≡ true → After k y → Is bs k 0 (length bs) → (Bad bs k 0 (length bs) → ⊥) → Comes text p (Next.Token (placed_token k))
  comes_there k e c t n =
      let u = told_there k e c t.told in
      let s = told_skips k _ u in (
        s.0,
        s.1,
        record { told = u },
        record {
          true_holds = λ x. absurd (false≢true x);
          holds_true = λ x. absurd (n (bad_alone text bs y p stands k (omega (arith, s.1)) x));
        },
      )
