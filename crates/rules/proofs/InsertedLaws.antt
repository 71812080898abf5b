-- A segment into which an option was put directly behind byte 20, as it arrives, with any checksum and any ports in it: what stands where.
-- Assumes of the option that it fills whole words, and of the segment what signing tests.
use Rattle.std.specs.Prelude.{ℕ, zero, suc, ◌+◌, ◌-◌, ◌*◌, ◌/◌, ◌≤◌, false, ◌≡◌, refl, length, get_or, take, drop, replicate, eqb, Option, Some, None}
use Rattle.std.proofs.Math.Path.{ap, ap₂, subst⁻¹}
use Rattle.std.proofs.Common.{sym, ◌∙◌, subst, arith, length-append, length-take, length-drop, take-append-drop, drop-cons}
use mathlib.Core.List.{List, [], ◌∷◌, ◌++◌, append_assoc}
use Rattle.std.proofs.Math.Seq.{take-append-add, drop-append-add, take-append_seam, drop-append_seam}
use Rattle.wire.specs.Header.{sequence, header_end_of, syn, ack, area}
use Rattle.wire.specs.Options.{least, options_of}
use Rattle.wire.specs.OptionLaws.{once, alone}
use Rattle.wire.specs.declared.options.Seen.{Seen}
use Rattle.rules.specs.Segment.{malformed, ao, md5, inserted, with_option, Whole}
use Rattle.rules.specs.Ends.{rechecked, with_ports}
use Rattle.rules.proofs.PortLaws.{Ports, ports_of_lem, written}

-- a header's twenty fixed bytes, by name, so that what is read of them computes: those behind the ports
pub record Head : Type 0 where
  pub b4 : ℕ
  pub b5 : ℕ
  pub b6 : ℕ
  pub b7 : ℕ
  pub b8 : ℕ
  pub b9 : ℕ
  pub b10 : ℕ
  pub b11 : ℕ
  pub b12 : ℕ
  pub b13 : ℕ
  pub b14 : ℕ
  pub b15 : ℕ
  pub b16 : ℕ
  pub b17 : ℕ
  pub b18 : ℕ
  pub b19 : ℕ

-- the header with w words more and another checksum
abbrev pub cells : Ports → Head → ℕ → ℕ → ℕ → List ℕ
cells u h w c d =
    u.b0 ∷ u.b1 ∷ u.b2 ∷ u.b3 ∷ h.b4 ∷ h.b5 ∷ h.b6 ∷ h.b7 ∷ h.b8 ∷ h.b9 ∷ h.b10 ∷ h.b11 ∷ (h.b12 + 16 * w) ∷ h.b13 ∷ h.b14 ∷ h.b15 ∷ c ∷ d
    ∷ h.b18 ∷ h.b19 ∷ []

abbrev pub fixed : Ports → Head → List ℕ
fixed u h =
    u.b0 ∷ u.b1 ∷ u.b2 ∷ u.b3 ∷ h.b4 ∷ h.b5 ∷ h.b6 ∷ h.b7 ∷ h.b8 ∷ h.b9 ∷ h.b10 ∷ h.b11 ∷ h.b12 ∷ h.b13 ∷ h.b14 ∷ h.b15 ∷ h.b16 ∷ h.b17
    ∷ h.b18 ∷ h.b19 ∷ []

abbrev pub head_of : List ℕ → Head
head_of s =
    record {
      b4 = get_or s 4 0;
      b5 = get_or s 5 0;
      b6 = get_or s 6 0;
      b7 = get_or s 7 0;
      b8 = get_or s 8 0;
      b9 = get_or s 9 0;
      b10 = get_or s 10 0;
      b11 = get_or s 11 0;
      b12 = get_or s 12 0;
      b13 = get_or s 13 0;
      b14 = get_or s 14 0;
      b15 = get_or s 15 0;
      b16 = get_or s 16 0;
      b17 = get_or s 17 0;
      b18 = get_or s 18 0;
      b19 = get_or s 19 0;
    }

-- n elements of s from i on, one by one, and the rest
spread : ℕ → ℕ → List ℕ → List ℕ
spread zero i s = drop i s
spread (suc n) i s = get_or s i 0 ∷ spread n (suc i) s

spread-all : (n i : ℕ) (s : List ℕ) → n + i ≤ length s → spread n i s ≡ drop i s
unfolding spread
spread-all zero i s e = refl
spread-all (suc n) i s e = rw (spread-all n (suc i) s (omega arith)) (sym (drop-cons s i 0 (omega arith)))

-- a segment is its twenty fixed bytes and the rest
pub shape : (s : List ℕ) → 20 ≤ length s → fixed (ports_of_lem s) (head_of s) ++ drop 20 s ≡ s
unfolding spread
shape s e = spread-all 20 0 s (omega arith)

-- what signing needs of a segment
pub record Fresh (s : List ℕ) : Type 0 where
  pub long : 20 ≤ length s
  pub low : 20 ≤ header_end_of s
  pub inside : header_end_of s ≤ length s
  pub formed : malformed s ≡ false
  pub no-ao : (ao s).count ≡ 0
  pub no-md5 : (md5 s).count ≡ 0

-- b is the segment s with the option opt behind byte 20, the ports u and the checksum c d
pub record Put (s opt : List ℕ) (u : Ports) (c d : ℕ) (b : List ℕ) : Type 0 where
  pub its-length : length b ≡ length s + length opt
  pub its-end : header_end_of b ≡ header_end_of s + length opt
  pub its-header : take (header_end_of b) b ≡ cells u (head_of s) (length opt / 4) c d ++ (opt ++ area s)
  pub its-area : area b ≡ opt ++ area s
  pub behind : drop 20 b ≡ opt ++ drop 20 s
  pub its-data : drop (header_end_of b) b ≡ drop (header_end_of s) s
  pub number : sequence b ≡ sequence s
  pub its-syn : syn b ≡ syn s
  pub its-ack : ack b ≡ ack s

-- A segment of the ports u, the header h, the options and the data.
module _ (u : Ports) (h : Head) (options rest : List ℕ) where
  abbrev plain : List ℕ
  plain = fixed u h ++ (options ++ rest)

  -- with an option, other ports and another checksum
  abbrev came : Ports → List ℕ → ℕ → ℕ → List ℕ
  came w opt c d = cells w h (length opt / 4) c d ++ (opt ++ (options ++ rest))

  module _ (whole : header_end_of plain ≡ 20 + length options) where
    plain-header : take (header_end_of plain) plain ≡ fixed u h ++ options
    plain-header =
        ap (λ (n : ℕ). take n plain) whole ∙ take-append-add (fixed u h) (options ++ rest) (length options)
        ∙ ap (λ (l : List ℕ). fixed u h ++ l) (take-append_seam options rest)

    plain-data : drop (header_end_of plain) plain ≡ rest
    plain-data =
        ap (λ (n : ℕ). drop n plain) whole ∙ drop-append-add (fixed u h) (options ++ rest) (length options)
        ∙ drop-append_seam options rest

    plain-area : area plain ≡ options
    plain-area =
        let e : header_end_of plain - 20 ≡ length options = omega (arith, whole) in
        ap (λ (n : ℕ). take n (options ++ rest)) e ∙ take-append_seam options rest

    inserts : (opt : List ℕ) → with_option opt plain ≡ came u opt 0 0
    unfolding with_option inserted
    inserts opt =
        ap₂ (λ (a b : List ℕ). inserted opt a ++ b) plain-header plain-data
        ∙ ap (λ (l : List ℕ). cells u h (length opt / 4) 0 0 ++ l) (append_assoc opt options rest)

    module _ (w : Ports) (opt : List ℕ) (c d : ℕ) (even : Whole (length opt)) where
      abbrev arrived : List ℕ
      arrived = came w opt c d

      end-arrived : header_end_of arrived ≡ header_end_of plain + length opt
      end-arrived = omega arith

      at-end : header_end_of arrived ≡ 20 + length (opt ++ options)
      at-end = omega (arith, end-arrived, whole, length-append opt options)

      -- the option belongs to the options
      regroup : opt ++ (options ++ rest) ≡ opt ++ options ++ rest
      regroup = sym (append_assoc opt options rest)

      header-arrived : take (header_end_of arrived) arrived ≡ cells w h (length opt / 4) c d ++ (opt ++ options)
      header-arrived =
          ap₂ (λ (n : ℕ) (l : List ℕ). take n (cells w h (length opt / 4) c d ++ l)) at-end regroup
          ∙ take-append-add (cells w h (length opt / 4) c d) (opt ++ options ++ rest) (length (opt ++ options))
          ∙ ap (λ (l : List ℕ). cells w h (length opt / 4) c d ++ l) (take-append_seam (opt ++ options) rest)

      data-arrived : drop (header_end_of arrived) arrived ≡ rest
      data-arrived =
          ap₂ (λ (n : ℕ) (l : List ℕ). drop n (cells w h (length opt / 4) c d ++ l)) at-end regroup
          ∙ drop-append-add (cells w h (length opt / 4) c d) (opt ++ options ++ rest) (length (opt ++ options))
          ∙ drop-append_seam (opt ++ options) rest

      area-arrived : area arrived ≡ opt ++ options
      area-arrived =
          let e : header_end_of arrived - 20 ≡ length (opt ++ options) = omega (arith, at-end) in
          ap₂ (λ (n : ℕ) (l : List ℕ). take n l) e regroup ∙ take-append_seam (opt ++ options) rest

      put-plain : Put plain opt w c d arrived
      put-plain =
          record {
            its-length = omega (arith, length-append opt (options ++ rest), length-append options rest);
            its-end = end-arrived;
            its-header = header-arrived ∙ ap (λ (l : List ℕ). cells w h (length opt / 4) c d ++ (opt ++ l)) (sym plain-area);
            its-area = area-arrived ∙ ap (λ (l : List ℕ). opt ++ l) (sym plain-area);
            behind = refl;
            its-data = data-arrived ∙ sym plain-data;
            number = refl;
            its-syn = refl;
            its-ack = refl;
          }

module _ (s : List ℕ) (fresh : Fresh s) (opt : List ℕ) (even : Whole (length opt)) where
  abbrev rest : List ℕ
  rest = drop (header_end_of s - 20) (drop 20 s)

  abbrev old : List ℕ
  old = plain (ports_of_lem s) (head_of s) (area s) rest

  is_plain : old ≡ s
  is_plain =
      ap (λ (l : List ℕ). fixed (ports_of_lem s) (head_of s) ++ l) (take-append-drop (header_end_of s - 20) (drop 20 s)) ∙ shape s fresh.long

  is_whole : header_end_of old ≡ 20 + length (area s)
  is_whole = omega (arith, length-take (header_end_of s - 20) (drop 20 s), length-drop 20 s, fresh.long, fresh.low, fresh.inside)

  puts : with_option opt old ≡ came (ports_of_lem s) (head_of s) (area s) rest (ports_of_lem s) opt 0 0
  puts = inserts (ports_of_lem s) (head_of s) (area s) rest is_whole opt

  -- as it is signed
  pub put : Put s opt (ports_of_lem s) 0 0 (with_option opt s)
  put =
      subst (λ (z : List ℕ). Put z opt (ports_of_lem s) 0 0 (with_option opt z)) is_plain
      (subst⁻¹ (Put old opt (ports_of_lem s) 0 0) puts (put-plain (ports_of_lem s) (head_of s) (area s) rest is_whole (ports_of_lem s) opt 0 0 even))

  -- and with other ports and another checksum
  pub put-again : (sp dp c d : ℕ) → Put s opt (written sp dp) c d (rechecked c d (with_ports sp dp (with_option opt s)))
  put-again sp dp c d =
      subst (λ (z : List ℕ). Put z opt (written sp dp) c d (rechecked c d (with_ports sp dp (with_option opt z)))) is_plain
      (subst⁻¹ (λ (b : List ℕ). Put old opt (written sp dp) c d (rechecked c d (with_ports sp dp b))) puts
      (put-plain (ports_of_lem s) (head_of s) (area s) rest is_whole (written sp dp) opt c d even))

  -- signing leaves the ports
  pub ports-put : ports_of_lem (with_option opt s) ≡ ports_of_lem s
  ports-put = subst (λ (z : List ℕ). ports_of_lem (with_option opt z) ≡ ports_of_lem z) is_plain (ap ports_of_lem puts)

-- Of the kinds that are reported, an option of kind k and n bytes with p bytes of padding is the only one, at the place 0.
pub only : (s : List ℕ) → Fresh s → (k n p : ℕ) (body a : List ℕ) → 2 ≤ k → least k ≤ n → n ≡ 2 + length body
    → a ≡ ((k ∷ n ∷ body) ++ replicate p 1) ++ area s
    → options_of a ≡ Some (record { md5 = once (eqb k 19) n; ao = once (eqb k 29) n })
only s fresh k n p body a h l b e = go (options_of (area s)) refl
  where
    go : (o : Option Seen) → options_of (area s) ≡ o → options_of a ≡ Some (record { md5 = once (eqb k 19) n; ao = once (eqb k 29) n })
    go None f = let z : ◌≡◌ {A = ℕ} 0 1 = cc (rw f at fresh.formed) in absurd (omega arith)
    go (Some x) f =
        ap options_of (e ∙ append_assoc (k ∷ n ∷ body) (replicate p 1) (area s))
        ∙ alone k n p body (area s) x h l b f (rw f at fresh.no-md5) (rw f at fresh.no-ao)
