-- When a sheet is issued and when one is accepted, by the orders of build and reading.
--
--   based-..                       what `Based f n a` says of f, n and a, as the laws of `field` and `normal` ask for it
--   build_issues, build-based      build finds nothing to refuse exactly if the element is based and there is room
--   build_tied                     and else refuses with 5, where f is accepted, the element below 2^n and the room enough
--   shaped-based                   what a sheet of good shape names is based where 2, 3 and 5 do not apply
--   read-sheet, sheet-reads        reading finds nothing to refuse exactly if the bytes are the sheet of some f and a
--
-- Assumes nothing.
use Rattle.std.specs.Prelude.{◌≡◌, refl, false, List, [], ◌∷◌, ℕ, ◌*◌, ◌^◌, ◌≤◌, ◌<◌}
use Rattle.std.proofs.Common.{◌∙◌, arith, le-ltb, ltb-false}
use Rattle.std.proofs.lemmas.Bool.{not-false}
use Rattle.gf2.specs.Limit.{limit}
use Rattle.gf2.specs.Degrees.{degree-eq}
use Rattle.gf2.specs.Poly.{degree, Degree}
use Rattle.gf2.specs.Truth.{or_false}
use Rattle.refusals.specs.Orders.{first-applies, first_passes, first-none, first-clear, part-clear, parts-clear}
use Rattle.refusals.specs.Verdicts.{clear, refuse, first_of}
use Rattle.field.specs.Accepted.{Accepted, InRange, degree_outside}
use Rattle.field.specs.Checked.{field_accepts, accepted-degree, accepted-returns}
use Rattle.field.specs.Field.{squared}
use Rattle.field.specs.Orders.{not_too_large, small-enough}
use Rattle.field.specs.Refusals.{too_large_lem, degree_rule, element_rule, field_order}
use Rattle.rows.specs.Rows.{Independent}
use Rattle.normal.specs.Normal.{conjugates, normal}
use Rattle.normal.proofs.Coordinates.{normal-means}
use Rattle.sheet.specs.Record.{record_size, record_count, conjugate_in, polynomial_in, sheet_bytes}
use Rattle.sheet.specs.Orders.{Shaped, room_rule, build_order, basis_order, rebuild_order, normal_rule, differ_rules, shape_order, rebuilt_from, read_order}
use Rattle.sheet.specs.Clear.{columns-lt, polynomial-degree}
use Rattle.sheet.proofs.Clear.{clear-shaped}
use Rattle.sheet.specs.Rebuilding.{sheet_bytes-length}
use Rattle.sheet.specs.Sheets.{Based, SheetOf}
use Rattle.sheet.proofs.Written.{written_count, written_shape, written_polynomial, written_element, written_rebuilt, itself_clear, same_sheets}
use Rattle.refusals.specs.declared.fault.Fault.TheVariants as faults

-- ---- what is based

module _ (f n a : ℕ) (b : Based f n a) where
  in_range : InRange f n
  in_range = rw b.has_degree at (accepted-degree f b.accepted)

  pub based-degree : Degree f n
  based-degree = in_range.is_degree

  pub based-two : 2 ≤ n
  based-two = in_range.two

  pub based-most : n ≤ limit
  based-most = in_range.most

  pub based-returns : squared f n n 2 ≡ 2
  based-returns = rw b.has_degree at (accepted-returns f b.accepted)

  pub based-free : Independent (conjugates f n a) n
  based-free = (normal-means f n a).0 b.is_normal

pub free-based : (f a : ℕ) → Accepted f → a < 2 ^ degree f → Independent (conjugates f (degree f) a) (degree f) → Based f (degree f) a
free-based f a accepted below free =
    record { accepted = accepted; has_degree = refl; below = below; is_normal = (normal-means f (degree f) a).1 free }

-- ---- conditions 2, 3 and 5

past-field : (f n a : ℕ) → Accepted f → first_of (basis_order f n a) ≡ first_of (normal_rule f n a ∷ [])
past-field f n a accepted = part-clear (field_order f) (normal_rule f n a ∷ []) ((field_accepts f accepted.in_range).1 accepted)

pub based-clear : (f n a : ℕ) → Based f n a → first_of (basis_order f n a) ≡ clear
based-clear f n a b = past-field f n a b.accepted ∙ first_passes (normal_rule f n a) [] (rw b.is_normal) ∙ first-none

pub clear-based : (f n a : ℕ) → degree_outside f ≡ false → degree f ≡ n → a < 2 ^ n → first_of (basis_order f n a) ≡ clear → Based f n a
clear-based f n a inside size below c =
    let x = parts-clear (field_order f) (normal_rule f n a ∷ []) c in
    record {
      accepted = (field_accepts f inside).0 x.0;
      has_degree = size;
      below = below;
      is_normal = not-false (normal f n a) (first-clear (normal_rule f n a) [] x.1).0;
    }

-- ---- build

module _ (f a room : ℕ) where
  module _ (accepted : Accepted f) (below : a < 2 ^ degree f) (fits : record_size * degree f ≤ room) where
    past_room : first_of (build_order f a room) ≡ first_of (basis_order f (degree f) a)
    past_room =
        first_passes (degree_rule f) _ accepted.in_range
        ∙ first_passes (element_rule (degree f) (a ∷ [])) _ (rw (small-enough (degree f) a below))
        ∙ first_passes (room_rule (degree f) room) _ (le-ltb room (record_size * degree f) fits)

    pub build_tied : normal f (degree f) a ≡ false → first_of (build_order f a room) ≡ refuse faults.NotNormal 0
    build_tied e = past_room ∙ past-field f (degree f) a accepted ∙ first-applies (normal_rule f (degree f) a) [] (rw e)

  pub build_issues : Based f (degree f) a → record_size * degree f ≤ room → first_of (build_order f a room) ≡ clear
  build_issues b fits = past_room b.accepted b.below fits ∙ based-clear f (degree f) a b

  pub build-based : first_of (build_order f a room) ≡ clear → Based f (degree f) a × (record_size * degree f ≤ room)
  build-based c =
      let one = first-clear (degree_rule f) _ c in
      let two = first-clear (element_rule (degree f) (a ∷ [])) _ one.1 in
      let three = first-clear (room_rule (degree f) room) _ two.1 in
      let below : a < 2 ^ degree f = not_too_large (degree f) a (or_false (too_large_lem (degree f) a) false two.0).0 in
      (clear-based f (degree f) a one.0 refl below three.1, ltb-false room (record_size * degree f) three.0)

-- ---- reading

-- the polynomial and the element that a sheet of good shape names, where 2, 3 and 5 do not apply
pub shaped-based : (sheet : List ℕ) → Shaped sheet → first_of (basis_order (polynomial_in sheet) (record_count sheet) (conjugate_in sheet 0)) ≡ clear
    → Based (polynomial_in sheet) (record_count sheet) (conjugate_in sheet 0)
unfolding degree_outside
shaped-based sheet z c =
    let f : ℕ = polynomial_in sheet in
    let n : ℕ = record_count sheet in
    let two : 2 ≤ n = z.size.two in
    let size : degree f ≡ n = degree-eq f n (polynomial-degree sheet z) in
    let inside : degree_outside f ≡ false = rw (size, le-ltb n 2 two, le-ltb limit n z.size.most) in
    clear-based f n (conjugate_in sheet 0) inside size (columns-lt sheet z 0 (omega arith)).1 c

module _ (sheet : List ℕ) (c : first_of (read_order sheet) ≡ clear) where
  abbrev n : ℕ
  n = record_count sheet

  abbrev f : ℕ
  f = polynomial_in sheet

  abbrev a : ℕ
  a = conjugate_in sheet 0

  parts : (first_of (shape_order sheet) ≡ clear) × (first_of (basis_order (polynomial_in sheet) (record_count sheet) (conjugate_in sheet 0)) ≡ clear)
      × (first_of (differ_rules sheet (rebuilt_from sheet) 0 (record_count sheet)) ≡ clear)
  parts =
      let x = parts-clear (shape_order sheet) (rebuild_order sheet) c in
      let y = parts-clear (basis_order f n a) (differ_rules sheet (rebuilt_from sheet) 0 n) x.1 in
      (x.0, y.0, y.1)

  -- what reading accepts is the sheet of the polynomial and the element that it names
  pub read-sheet : SheetOf (polynomial_in sheet) (record_count sheet) (conjugate_in sheet 0) sheet
  read-sheet =
      let z : Shaped sheet = clear-shaped sheet parts.0 in
      record {
        based = shaped-based sheet z parts.1;
        bytes = same_sheets sheet (rebuilt_from sheet) n z.size.whole (sheet_bytes-length f n a) parts.2;
      }

-- and such a sheet is accepted
pub sheet-reads : (f n a : ℕ) (sheet : List ℕ) → SheetOf f n a sheet → first_of (read_order sheet) ≡ clear
sheet-reads f n a sheet s = rw s.bytes reads
  where
    b : Based f n a
    b = s.based

    w : List ℕ
    w = sheet_bytes f n a

    reads : first_of (read_order (sheet_bytes f n a)) ≡ clear
    reads =
        let deg = based-degree f n a b in
        let two = based-two f n a b in
        let most = based-most f n a b in
        let free = based-free f n a b in
        let basis : first_of (basis_order (polynomial_in w) (record_count w) (conjugate_in w 0)) ≡ clear =
        rw (
          written_polynomial f n a deg two most b.below free,
          written_count f n a deg two most b.below free,
          written_element f n a deg two most b.below free,
        ) (based-clear f n a b) in
        part-clear (shape_order w) (rebuild_order w) (written_shape f n a deg two most b.below free)
        ∙ part-clear (basis_order (polynomial_in w) (record_count w) (conjugate_in w 0)) (differ_rules w (rebuilt_from w) 0 (record_count w)) basis
        ∙ rw (written_rebuilt f n a deg two most b.below free) (itself_clear w 0 (record_count w))
