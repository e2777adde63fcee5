-- A literal without blanks and quotes is the token where a byte stands behind it that no literal takes, or two points, or an arrow. Assumes nothing.
use mathlib.Core.Path.{◌≡◌, refl, subst}
use mathlib.Core.Bool.{Bool, true, false, ◌||◌}
use mathlib.Core.List.{List, [], ◌∷◌}
use Prim.Native.Nat.{ℕ, suc, ◌+◌, ◌≤◌}
use native.Mathlib.Omega.{arith}
use native.Mathlib.Decide.{dec_le}
use Rattle.rules.specs.Class.{Class, any_of, ◌upto◌, ◌to◌}
use Rattle.rules.specs.Rule.{Rule, ◌then◌, ◌or◌, opt, Takes, nothing, byte, both, left, right, At}
use Rattle.rules.proofs.Bounds.{all_of}
use Rattle.rules.proofs.Classes.{apart, apart_span, includes, in_some}
use Rattle.rules.proofs.Matches.{forward}
use Rattle.rules.proofs.Ways.{never, never_takes, covers, covers_all}
use Rattle.lexicon.specs.declared.Base.{Base}
use Rattle.lexicon.specs.declared.Base.TheVariants.{Two, Eight, Ten, Sixteen}
use Rattle.lexicon.specs.Bytes.{binary, octal, hexadecimal, base64, digits}
use Rattle.lexicon.specs.Space.{sp}
use Rattle.lexicon.specs.Literals.{groups, prefix, of_base, nonsigned, plus_minus, sign, integer, spaced, point_of_base, nonsigned_point, fraction, maybe, bits, blob}
use Rattle.lexicon.specs.Literals.{quoted as quoted-rule}
use Rattle.lexicon.specs.Symbols.{symbol}
use Rattle.lexicon.specs.Token.{Lexeme, an_ignorance, a_boolean, an_integer, a_fraction, a_bits, a_blob, a_quoted, a_word, a_code_point, a_later, a_symbol, rule, Here}
use Rattle.lexicon.proofs.Tokens.{every, for_every}
use Rattle.form.proofs.Fits.{ink, Sub, sub, Mode, exact, Fits, space, units, ink_fits, quoted_fits}
use Rattle.form.proofs.Barrier.{stays}

-- the bytes of literals but for quotes, blanks, the point and the minus
abbrev solid : Class
solid = 0x2A upto 0x2B ∷ 0x2F upto 0x39 ∷ "=" to "=" ∷ "A" to "Z" ∷ "^" to "_" ∷ "a" to "z" ∷ []

abbrev pub point : Class
point = any_of "."

abbrev pub angle : Class
angle = any_of ">"

-- and with the two
abbrev pub inner : Class
inner = 0x2A upto 0x2B ∷ 0x2D upto 0x39 ∷ "=" to "=" ∷ "A" to "Z" ∷ "^" to "_" ∷ "a" to "z" ∷ []

-- the bytes that may stand behind a literal: the first of closing brackets, comma, colons, stars, dots and arrows
abbrev pub walls : Class
walls = any_of ")}],:<.-"

solid_walls : apart solid walls ≡ true
unfolding apart apart_span
solid_walls = refl

under_walls : apart (any_of "_") walls ≡ true
unfolding apart apart_span
under_walls = refl

digits_point : (b : Base) → never point (groups 1 (digits b)) ≡ true
unfolding never apart apart_span
digits_point Two = refl
digits_point Eight = refl
digits_point Ten = refl
digits_point Sixteen = refl

point_space : never point sp ≡ true
unfolding never apart apart_span
point_space = refl

angle_space : never angle sp ≡ true
unfolding never apart apart_span
angle_space = refl

angle_number : never angle nonsigned ≡ true
unfolding never apart apart_span
angle_number = refl

angle_point : never angle nonsigned_point ≡ true
unfolding never apart apart_span
angle_point = refl

digits_solid : (b : Base) → Sub (digits b) solid
unfolding includes in_some
digits_solid Two = sub _ _ refl
digits_solid Eight = sub _ _ refl
digits_solid Ten = sub _ _ refl
digits_solid Sixteen = sub _ _ refl

-- a token rule that is no sign's
abbrev literal : Lexeme → Bool
literal an_ignorance = true
literal (a_boolean b) = true
literal an_integer = true
literal a_fraction = true
literal a_bits = true
literal a_blob = true
literal a_quoted = true
literal a_word = true
literal a_code_point = true
literal a_later = true
literal (a_symbol s) = false

-- no sign reaches further, told by the first bytes
abbrev pub no_longer_sign : Lexeme → Bool
no_longer_sign l = every (λ m. literal m || covers 6 (rule l) (rule m))

-- from start up to j stands ink, and at j a wall; a point is one of two, a minus is that of an arrow
module _ (text : List ℕ) (start j : ℕ) (run : (x : ℕ) → start ≤ x → x ≤ j → At text ink x) (wall : At text walls j)
    (dots : At text point j → At text point (j + 1))
    (arrow : At text plus_minus j → At text angle (j + 1)) where
  -- no match from here on passes the wall
  abbrev Stay : Rule → Type 0
  Stay r = (i k : ℕ) → start ≤ i → i ≤ j → Takes text r i k → k ≤ j

  fitting : {Quotes : Type 0} {m o : Mode} {r : Rule} → Fits solid Quotes m r o → Stay r
  fitting f i k s h t = stays text solid walls solid_walls under_walls start j run wall f s h t

  inks : (r : Rule) → all_of solid r ≡ true → Stay r
  inks r e = fitting (ink_fits solid r e)

  blanks : Stay (opt sp)
  blanks = fitting {Quotes = ⊥} (space {m = exact})

  rows : (n : ℕ) (c : Class) → Sub c solid → Stay (groups (suc n) c)
  rows n c e = fitting {Quotes = ⊥} (units {m = exact} n e)

  next : (a b : Rule) → Stay a → Stay b → Stay (a then b)
  next a b f g i k s h (both t u) = let p = f _ _ s h t in let x = forward t in g _ _ (omega (arith, s, x)) p u

  either : (a b : Rule) → Stay a → Stay b → Stay (a or b)
  either a b f g i k s h (left t) = f i k s h t
  either a b f g i k s h (right t) = g i k s h t

  maybe_not : (a : Rule) → Stay a → Stay (opt a)
  maybe_not a f i k s h (left t) = f i k s h t
  maybe_not a f i k s h (right (nothing e)) = omega (arith, e, h)

  -- ---- numbers

  mark_then : (r : Rule) → all_of solid r ≡ true → Stay (r then opt sp)
  mark_then r e = next _ _ (inks r e) blanks

  prefix_stays : (b : Base) → Stay (prefix b)
  unfolding includes in_some
  prefix_stays Two = mark_then _ refl
  prefix_stays Eight = mark_then _ refl
  prefix_stays Ten = maybe_not _ (mark_then _ refl)
  prefix_stays Sixteen = mark_then _ refl

  digits_stay : (b : Base) → Stay (groups 1 (digits b))
  digits_stay b = rows 0 (digits b) (digits_solid b)

  base_stays : (b : Base) → Stay (of_base b)
  base_stays b = next _ _ (prefix_stays b) (digits_stay b)

  nonsigned_stays : Stay nonsigned
  nonsigned_stays = either _ _ (base_stays Two) (either _ _ (base_stays Eight) (either _ _ (base_stays Ten) (base_stays Sixteen)))

  -- a sign before a number: at the wall it is an arrow's, and no number follows
  signed_stays : (r : Rule) → never angle r ≡ true → Stay r → Stay (sign then r)
  signed_stays r n f i k s h (both (right (nothing e)) t) = f _ _ (omega (arith, s, e)) (omega (arith, h, e)) t
  signed_stays r n f i k s h (both (left (both {m = m} (byte a e) v)) t) = far (dec_le m j)
    where
      closed : i ≡ j → {x : ℕ} → Takes text (opt sp) m x → Takes text r x k → k ≤ j
      closed g (left v) t = absurd (never_takes text angle sp angle_space
          (subst (At text angle) (omega (arith, e, g)) (arrow (subst (At text plus_minus) g a))) v)
      closed g (right (nothing q)) t =
          absurd (never_takes text angle r n (subst (At text angle) (omega (arith, e, g, q)) (arrow (subst (At text plus_minus) g a))) t)

      far : Dec (m ≤ j) → k ≤ j
      far (yes w) = f _ _ (omega (arith, s, e, forward v)) (blanks _ _ (omega (arith, s, e)) w v) t
      far (no w) = closed (omega (arith, w, e, h)) v t

  integer_stays : Stay integer
  integer_stays = signed_stays nonsigned angle_number nonsigned_stays

  -- a point before digits: at the wall it is one of two, and no digit follows
  point_stays : (b : Base) → Stay (spaced "." then groups 1 (digits b))
  point_stays b i k s h (both (both u (both (byte a e) v)) t) = go (blanks _ _ s h u) (forward u) a e v t
    where
      go : {x m n : ℕ} → x ≤ j → i ≤ x → At text point x → m ≡ x + 1 → Takes text (opt sp) m n → Takes text (groups 1 (digits b)) n k → k ≤ j
      go {x} {m} {n} p q a e v t = far (dec_le m j)
        where
          closed : x ≡ j → {n : ℕ} → Takes text (opt sp) m n → Takes text (groups 1 (digits b)) n k → k ≤ j
          closed f (left v) t = absurd (never_takes text point sp point_space
              (subst (At text point) (omega (arith, e, f)) (dots (subst (At text point) f a))) v)
          closed f (right (nothing g)) t =
              absurd (never_takes text point (groups 1 (digits b)) (digits_point b)
              (subst (At text point) (omega (arith, e, f, g)) (dots (subst (At text point) f a))) t)

          far : Dec (m ≤ j) → k ≤ j
          far (yes w) = let z = forward v in digits_stay b _ _ (omega (arith, s, q, e, z)) (blanks _ _ (omega (arith, s, q, e)) w v) t
          far (no w) = closed (omega (arith, w, e, p)) v t

  pointed_stays : (b : Base) → Stay (point_of_base b)
  pointed_stays b i k s h (both t (both u (both v w))) =
      next _ _ (prefix_stays b) (next _ _ (digits_stay b) (point_stays b)) i k s h (both t (both u (both v w)))

  symbol_stays : (r : Rule) → all_of solid r ≡ true → Stay (opt sp then r then opt sp)
  symbol_stays r e = next _ _ blanks (mark_then r e)

  fraction_stays : Stay fraction
  unfolding includes in_some
  fraction_stays =
      next _ _
      (either _ _ (signed_stays nonsigned_point angle_point
      (either _ _ (pointed_stays Two) (either _ _ (pointed_stays Eight) (either _ _ (pointed_stays Ten) (pointed_stays Sixteen)))))
      (next _ _ integer_stays (next _ _ (symbol_stays _ refl) nonsigned_stays)))
      (maybe_not _ (next _ _ (symbol_stays _ refl) (next _ _ nonsigned_stays (next _ _ (symbol_stays _ refl) integer_stays))))

  -- ---- Bits, Blobs

  maybe_stays : (r : Rule) (n : ℕ) (c : Class) → all_of solid r ≡ true → Sub c solid → Stay (r then maybe (suc n) c)
  maybe_stays r n c e f = next _ _ (inks r e) (maybe_not _ (next _ _ blanks (rows n c f)))

  bits_stay : Stay bits
  unfolding includes in_some
  bits_stay = either _ _ (maybe_stays _ 0 binary refl (sub _ _ refl))
      (either _ _ (maybe_stays _ 0 octal refl (sub _ _ refl)) (maybe_stays _ 0 hexadecimal refl (sub _ _ refl)))

  blob_stays : Stay blob
  unfolding includes in_some
  blob_stays = either _ _ (maybe_stays _ 7 binary refl (sub _ _ refl))
      (either _ _ (maybe_stays _ 1 hexadecimal refl (sub _ _ refl)) (maybe_stays _ 3 base64 refl (sub _ _ refl)))

  -- ---- any token rule

  quoted_stays : Stay quoted-rule
  quoted_stays = fitting (quoted_fits solid)

  -- a literal that no sign outreaches
  lexeme_stays : (l m : Lexeme) {k : ℕ} → no_longer_sign l ≡ true → start ≤ j → Takes text (rule l) start j → Takes text (rule m) start k → k ≤ j
  unfolding includes in_some
  lexeme_stays l an_ignorance e h t u = inks _ refl _ _ (omega arith) h u
  lexeme_stays l (a_boolean true) e h t u = inks _ refl _ _ (omega arith) h u
  lexeme_stays l (a_boolean false) e h t u = inks _ refl _ _ (omega arith) h u
  lexeme_stays l an_integer e h t u = integer_stays _ _ (omega arith) h u
  lexeme_stays l a_fraction e h t u = fraction_stays _ _ (omega arith) h u
  lexeme_stays l a_bits e h t u = bits_stay _ _ (omega arith) h u
  lexeme_stays l a_blob e h t u = blob_stays _ _ (omega arith) h u
  lexeme_stays l a_quoted e h t u = quoted_stays _ _ (omega arith) h u
  lexeme_stays l a_word e h t u = inks _ refl _ _ (omega arith) h u
  lexeme_stays l a_code_point e h t u = inks _ refl _ _ (omega arith) h u
  lexeme_stays l a_later e h t u = inks _ refl _ _ (omega arith) h u
  lexeme_stays l (a_symbol s) e h t u =
      covers_all text 6 (rule l) (symbol s) (for_every (λ m. literal m || covers 6 (rule l) (rule m)) e (a_symbol s)) t u

  pub literal_here : (l : Lexeme) → no_longer_sign l ≡ true → Takes text (rule l) start j → Here text l start j
  literal_here l e t = record { takes = t; most = λ m u. lexeme_stays l m e (forward t) t u }
