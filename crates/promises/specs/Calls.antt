-- The calls, by their promises. A function is a call if it is public and does one of the things that document 01, "What the desk issues", or
-- a request of document 02 names: whoever holds numbers and memory may call it, so it asks nothing of its arguments (`asks_nothing`). The
-- exports and the functions on words are called from outside too, and stand here as well.
--
--   Call              a call as the checker itself reads it: lifetimes, parameters, result, what it asks (`Asked`) and its promise (`Post`)
--   Run c             a run of the call c as its promise permits it
--     .args             what it is handed, in order: `.0`, `.1 .0`, `.1 .1 .0`; what a borrowed slice holds then is `now` of it
--     .result           what it returns
--     .exit             the arguments once it has returned: what a lent slice holds then is `now` of it
--   Determined c      any two results that the promise permits for the same arguments are equal
--   DeterminedWith c left   and any two final states of what it lends, which `left` picks
--   check, multiply, ..   the twenty calls of the desk, the nineteen exports, and the two that read a word
--
-- A theorem on every run of a call is one on what the call does. Definitions alone.
-- Assumes nothing.
use Rattle.std.specs.Prelude.{◌≡◌, List, ℕ}
use borrow.Fn.Kinds.{ParamKind, ResultKind, Dens, res_t, ended_of, In, Out}
use contract.Lifetimes.{Lfts}
use denote.Triple.Clauses.{AtExit}
use Rattle.field.proofs.check.Reads as check-reads
use Rattle.field.proofs.check.Kinds as check-kinds
use Rattle.field.proofs.multiply.Reads as multiply-reads
use Rattle.field.proofs.multiply.Kinds as multiply-kinds
use Rattle.field.proofs.square.Reads as square-reads
use Rattle.field.proofs.square.Kinds as square-kinds
use Rattle.field.proofs.trace.Reads as trace-reads
use Rattle.field.proofs.trace.Kinds as trace-kinds
use Rattle.sheet.proofs.build.Reads as build-reads
use Rattle.sheet.proofs.build.Kinds as build-kinds
use Rattle.sheet.proofs.read.Reads as read-reads
use Rattle.sheet.proofs.read.Kinds as read-kinds
use Rattle.sheet.proofs.to_polynomial.Reads as to-polynomial-reads
use Rattle.sheet.proofs.to_polynomial.Kinds as to-polynomial-kinds
use Rattle.sheet.proofs.to_normal.Reads as to-normal-reads
use Rattle.sheet.proofs.to_normal.Kinds as to-normal-kinds
use Rattle.sheet.proofs.times.Reads as times-reads
use Rattle.sheet.proofs.times.Kinds as times-kinds
use Rattle.sheet.proofs.inverse.Reads as inverse-reads
use Rattle.sheet.proofs.inverse.Kinds as inverse-kinds
use Rattle.sheet.proofs.quotient.Reads as quotient-reads
use Rattle.sheet.proofs.quotient.Kinds as quotient-kinds
use Rattle.sheet.proofs.list_to_polynomial.Reads as list-to-polynomial-reads
use Rattle.sheet.proofs.list_to_polynomial.Kinds as list-to-polynomial-kinds
use Rattle.sheet.proofs.list_to_normal.Reads as list-to-normal-reads
use Rattle.sheet.proofs.list_to_normal.Kinds as list-to-normal-kinds
use Rattle.causes.proofs.why.Reads as why-reads
use Rattle.causes.proofs.why.Kinds as why-kinds
use Rattle.causes.proofs.why_check.Reads as why-check-reads
use Rattle.causes.proofs.why_check.Kinds as why-check-kinds
use Rattle.causes.proofs.why_build.Reads as why-build-reads
use Rattle.causes.proofs.why_build.Kinds as why-build-kinds
use Rattle.matrices.proofs.write_matrices.Reads as write-matrices-reads
use Rattle.matrices.proofs.write_matrices.Kinds as write-matrices-kinds
use Rattle.matrices.proofs.read_matrices.Reads as read-matrices-reads
use Rattle.matrices.proofs.read_matrices.Kinds as read-matrices-kinds
use Rattle.search.proofs.search.Reads as search-reads
use Rattle.search.proofs.search.Kinds as search-kinds
use Rattle.listing.proofs.listing.Reads as listing-reads
use Rattle.listing.proofs.listing.Kinds as listing-kinds
use Rattle.capi.proofs.desk_check.Reads as desk-check-reads
use Rattle.capi.proofs.desk_check.Kinds as desk-check-kinds
use Rattle.capi.proofs.desk_multiply.Reads as desk-multiply-reads
use Rattle.capi.proofs.desk_multiply.Kinds as desk-multiply-kinds
use Rattle.capi.proofs.desk_square.Reads as desk-square-reads
use Rattle.capi.proofs.desk_square.Kinds as desk-square-kinds
use Rattle.capi.proofs.desk_trace.Reads as desk-trace-reads
use Rattle.capi.proofs.desk_trace.Kinds as desk-trace-kinds
use Rattle.capi.proofs.desk_build.Reads as desk-build-reads
use Rattle.capi.proofs.desk_build.Kinds as desk-build-kinds
use Rattle.capi.proofs.desk_read.Reads as desk-read-reads
use Rattle.capi.proofs.desk_read.Kinds as desk-read-kinds
use Rattle.capi.proofs.desk_to_polynomial.Reads as desk-to-polynomial-reads
use Rattle.capi.proofs.desk_to_polynomial.Kinds as desk-to-polynomial-kinds
use Rattle.capi.proofs.desk_to_normal.Reads as desk-to-normal-reads
use Rattle.capi.proofs.desk_to_normal.Kinds as desk-to-normal-kinds
use Rattle.capi.proofs.desk_times.Reads as desk-times-reads
use Rattle.capi.proofs.desk_times.Kinds as desk-times-kinds
use Rattle.capi.proofs.desk_inverse.Reads as desk-inverse-reads
use Rattle.capi.proofs.desk_inverse.Kinds as desk-inverse-kinds
use Rattle.capi.proofs.desk_quotient.Reads as desk-quotient-reads
use Rattle.capi.proofs.desk_quotient.Kinds as desk-quotient-kinds
use Rattle.capi.proofs.desk_list_to_polynomial.Reads as desk-list-to-polynomial-reads
use Rattle.capi.proofs.desk_list_to_polynomial.Kinds as desk-list-to-polynomial-kinds
use Rattle.capi.proofs.desk_list_to_normal.Reads as desk-list-to-normal-reads
use Rattle.capi.proofs.desk_list_to_normal.Kinds as desk-list-to-normal-kinds
use Rattle.capi.proofs.desk_why.Reads as desk-why-reads
use Rattle.capi.proofs.desk_why.Kinds as desk-why-kinds
use Rattle.capi.proofs.desk_write_matrices.Reads as desk-write-matrices-reads
use Rattle.capi.proofs.desk_write_matrices.Kinds as desk-write-matrices-kinds
use Rattle.capi.proofs.desk_read_matrices.Reads as desk-read-matrices-reads
use Rattle.capi.proofs.desk_read_matrices.Kinds as desk-read-matrices-kinds
use Rattle.capi.proofs.desk_search.Reads as desk-search-reads
use Rattle.capi.proofs.desk_search.Kinds as desk-search-kinds
use Rattle.capi.proofs.desk_number_of.Reads as desk-number-of-reads
use Rattle.capi.proofs.desk_number_of.Kinds as desk-number-of-kinds
use Rattle.capi.proofs.desk_polynomial_of.Reads as desk-polynomial-of-reads
use Rattle.capi.proofs.desk_polynomial_of.Kinds as desk-polynomial-of-kinds
use Rattle.words.proofs.number.Reads as number-reads
use Rattle.words.proofs.number.Kinds as number-kinds
use Rattle.words.proofs.polynomial.Reads as polynomial-reads
use Rattle.words.proofs.polynomial.Kinds as polynomial-kinds

pub record Call : Type 3 where
  pub lifetimes : ℕ
  pub params : List (ParamKind lifetimes)
  pub returns : ResultKind lifetimes
  pub asks : In lifetimes params
  pub promise : Out lifetimes params returns
  -- whatever a caller hands over, the promise holds
  pub asks_nothing : (κs : Lfts lifetimes) (a : Dens κs params) → asks κs a

abbrev pub Result : (c : Call) → Lfts c.lifetimes → Type 0
Result c κs = (res_t c.returns κs).Denot

abbrev pub Exit : (c : Call) → Lfts c.lifetimes → Type 0
Exit c κs = AtExit (ended_of c.lifetimes c.params c.returns) κs

pub record Run (c : Call) : Type 0 where
  pub lifetimes : Lfts c.lifetimes
  pub args : Dens lifetimes c.params
  pub result : Result c lifetimes
  pub exit : Exit c lifetimes
  pub kept : c.promise lifetimes args result exit

abbrev pub Determined : Call → Type 0
Determined c =
    (κs : Lfts c.lifetimes) (a : Dens κs c.params) (x y : Result c κs) (e e' : Exit c κs) → c.promise κs a x e → c.promise κs a y e' → x ≡ y

abbrev pub DeterminedWith : (c : Call) → ((κs : Lfts c.lifetimes) → Exit c κs → List ℕ) → Type 0
DeterminedWith c left =
    (κs : Lfts c.lifetimes) (a : Dens κs c.params) (x y : Result c κs) (e e' : Exit c κs) → c.promise κs a x e → c.promise κs a y e'
    → (x ≡ y) × (left κs e ≡ left κs e')

-- ---- the field calls

abbrev pub check : Call
check = record { lifetimes = 0; params = check-kinds.ps; returns = check-kinds.r; asks = check-reads.Asked; promise = check-reads.Post; asks_nothing = λ κs a. tt }

abbrev pub multiply : Call
multiply = record { lifetimes = 0; params = multiply-kinds.ps; returns = multiply-kinds.r; asks = multiply-reads.Asked; promise = multiply-reads.Post; asks_nothing = λ κs a. tt }

abbrev pub square : Call
square = record { lifetimes = 0; params = square-kinds.ps; returns = square-kinds.r; asks = square-reads.Asked; promise = square-reads.Post; asks_nothing = λ κs a. tt }

abbrev pub trace : Call
trace = record { lifetimes = 0; params = trace-kinds.ps; returns = trace-kinds.r; asks = trace-reads.Asked; promise = trace-reads.Post; asks_nothing = λ κs a. tt }

-- ---- sheets

abbrev pub build : Call
build = record { lifetimes = 1; params = build-kinds.ps; returns = build-kinds.r; asks = build-reads.Asked; promise = build-reads.Post; asks_nothing = λ κs a. tt }

abbrev pub read : Call
read = record { lifetimes = 1; params = read-kinds.ps; returns = read-kinds.r; asks = read-reads.Asked; promise = read-reads.Post; asks_nothing = λ κs a. tt }

abbrev pub to-polynomial : Call
to-polynomial = record { lifetimes = 1; params = to-polynomial-kinds.ps; returns = to-polynomial-kinds.r; asks = to-polynomial-reads.Asked; promise = to-polynomial-reads.Post; asks_nothing = λ κs a. tt }

abbrev pub to-normal : Call
to-normal = record { lifetimes = 1; params = to-normal-kinds.ps; returns = to-normal-kinds.r; asks = to-normal-reads.Asked; promise = to-normal-reads.Post; asks_nothing = λ κs a. tt }

abbrev pub times : Call
times = record { lifetimes = 1; params = times-kinds.ps; returns = times-kinds.r; asks = times-reads.Asked; promise = times-reads.Post; asks_nothing = λ κs a. tt }

abbrev pub inverse : Call
inverse = record { lifetimes = 1; params = inverse-kinds.ps; returns = inverse-kinds.r; asks = inverse-reads.Asked; promise = inverse-reads.Post; asks_nothing = λ κs a. tt }

abbrev pub quotient : Call
quotient = record { lifetimes = 1; params = quotient-kinds.ps; returns = quotient-kinds.r; asks = quotient-reads.Asked; promise = quotient-reads.Post; asks_nothing = λ κs a. tt }

abbrev pub list-to-polynomial : Call
list-to-polynomial = record { lifetimes = 3; params = list-to-polynomial-kinds.ps; returns = list-to-polynomial-kinds.r; asks = list-to-polynomial-reads.Asked; promise = list-to-polynomial-reads.Post; asks_nothing = λ κs a. tt }

abbrev pub list-to-normal : Call
list-to-normal = record { lifetimes = 3; params = list-to-normal-kinds.ps; returns = list-to-normal-kinds.r; asks = list-to-normal-reads.Asked; promise = list-to-normal-reads.Post; asks_nothing = λ κs a. tt }

-- ---- causes

abbrev pub why : Call
why = record { lifetimes = 1; params = why-kinds.ps; returns = why-kinds.r; asks = why-reads.Asked; promise = why-reads.Post; asks_nothing = λ κs a. tt }

abbrev pub why-check : Call
why-check = record { lifetimes = 0; params = why-check-kinds.ps; returns = why-check-kinds.r; asks = why-check-reads.Asked; promise = why-check-reads.Post; asks_nothing = λ κs a. tt }

abbrev pub why-build : Call
why-build = record { lifetimes = 0; params = why-build-kinds.ps; returns = why-build-kinds.r; asks = why-build-reads.Asked; promise = why-build-reads.Post; asks_nothing = λ κs a. tt }

-- ---- the text of the matrices

abbrev pub write_matrices : Call
write_matrices = record { lifetimes = 2; params = write-matrices-kinds.ps; returns = write-matrices-kinds.r; asks = write-matrices-reads.Asked; promise = write-matrices-reads.Post; asks_nothing = λ κs a. tt }

abbrev pub read-matrices : Call
read-matrices = record { lifetimes = 1; params = read-matrices-kinds.ps; returns = read-matrices-kinds.r; asks = read-matrices-reads.Asked; promise = read-matrices-reads.Post; asks_nothing = λ κs a. tt }

-- ---- the search

abbrev pub search : Call
search = record { lifetimes = 0; params = search-kinds.ps; returns = search-kinds.r; asks = search-reads.Asked; promise = search-reads.Post; asks_nothing = λ κs a. tt }

-- ---- the listing

abbrev pub listing : Call
listing = record { lifetimes = 2; params = listing-kinds.ps; returns = listing-kinds.r; asks = listing-reads.Asked; promise = listing-reads.Post; asks_nothing = λ κs a. tt }

-- ---- the exports for C and Rust

abbrev pub desk_check : Call
desk_check = record { lifetimes = 0; params = desk-check-kinds.ps; returns = desk-check-kinds.r; asks = desk-check-reads.Asked; promise = desk-check-reads.Post; asks_nothing = λ κs a. tt }

abbrev pub desk_multiply : Call
desk_multiply = record { lifetimes = 0; params = desk-multiply-kinds.ps; returns = desk-multiply-kinds.r; asks = desk-multiply-reads.Asked; promise = desk-multiply-reads.Post; asks_nothing = λ κs a. tt }

abbrev pub desk_square : Call
desk_square = record { lifetimes = 0; params = desk-square-kinds.ps; returns = desk-square-kinds.r; asks = desk-square-reads.Asked; promise = desk-square-reads.Post; asks_nothing = λ κs a. tt }

abbrev pub desk_trace : Call
desk_trace = record { lifetimes = 0; params = desk-trace-kinds.ps; returns = desk-trace-kinds.r; asks = desk-trace-reads.Asked; promise = desk-trace-reads.Post; asks_nothing = λ κs a. tt }

abbrev pub desk_build : Call
desk_build = record { lifetimes = 1; params = desk-build-kinds.ps; returns = desk-build-kinds.r; asks = desk-build-reads.Asked; promise = desk-build-reads.Post; asks_nothing = λ κs a. tt }

abbrev pub desk_read : Call
desk_read = record { lifetimes = 1; params = desk-read-kinds.ps; returns = desk-read-kinds.r; asks = desk-read-reads.Asked; promise = desk-read-reads.Post; asks_nothing = λ κs a. tt }

abbrev pub desk_to-polynomial : Call
desk_to-polynomial = record { lifetimes = 1; params = desk-to-polynomial-kinds.ps; returns = desk-to-polynomial-kinds.r; asks = desk-to-polynomial-reads.Asked; promise = desk-to-polynomial-reads.Post; asks_nothing = λ κs a. tt }

abbrev pub desk_to-normal : Call
desk_to-normal = record { lifetimes = 1; params = desk-to-normal-kinds.ps; returns = desk-to-normal-kinds.r; asks = desk-to-normal-reads.Asked; promise = desk-to-normal-reads.Post; asks_nothing = λ κs a. tt }

abbrev pub desk_times : Call
desk_times = record { lifetimes = 1; params = desk-times-kinds.ps; returns = desk-times-kinds.r; asks = desk-times-reads.Asked; promise = desk-times-reads.Post; asks_nothing = λ κs a. tt }

abbrev pub desk_inverse : Call
desk_inverse = record { lifetimes = 1; params = desk-inverse-kinds.ps; returns = desk-inverse-kinds.r; asks = desk-inverse-reads.Asked; promise = desk-inverse-reads.Post; asks_nothing = λ κs a. tt }

abbrev pub desk_quotient : Call
desk_quotient = record { lifetimes = 1; params = desk-quotient-kinds.ps; returns = desk-quotient-kinds.r; asks = desk-quotient-reads.Asked; promise = desk-quotient-reads.Post; asks_nothing = λ κs a. tt }

abbrev pub desk_list-to-polynomial : Call
desk_list-to-polynomial = record { lifetimes = 3; params = desk-list-to-polynomial-kinds.ps; returns = desk-list-to-polynomial-kinds.r; asks = desk-list-to-polynomial-reads.Asked; promise = desk-list-to-polynomial-reads.Post; asks_nothing = λ κs a. tt }

abbrev pub desk_list-to-normal : Call
desk_list-to-normal = record { lifetimes = 3; params = desk-list-to-normal-kinds.ps; returns = desk-list-to-normal-kinds.r; asks = desk-list-to-normal-reads.Asked; promise = desk-list-to-normal-reads.Post; asks_nothing = λ κs a. tt }

abbrev pub desk_write_matrices : Call
desk_write_matrices = record { lifetimes = 2; params = desk-write-matrices-kinds.ps; returns = desk-write-matrices-kinds.r; asks = desk-write-matrices-reads.Asked; promise = desk-write-matrices-reads.Post; asks_nothing = λ κs a. tt }

abbrev pub desk_read-matrices : Call
desk_read-matrices = record { lifetimes = 1; params = desk-read-matrices-kinds.ps; returns = desk-read-matrices-kinds.r; asks = desk-read-matrices-reads.Asked; promise = desk-read-matrices-reads.Post; asks_nothing = λ κs a. tt }

abbrev pub desk_why : Call
desk_why = record { lifetimes = 1; params = desk-why-kinds.ps; returns = desk-why-kinds.r; asks = desk-why-reads.Asked; promise = desk-why-reads.Post; asks_nothing = λ κs a. tt }

abbrev pub desk_search : Call
desk_search = record { lifetimes = 0; params = desk-search-kinds.ps; returns = desk-search-kinds.r; asks = desk-search-reads.Asked; promise = desk-search-reads.Post; asks_nothing = λ κs a. tt }

abbrev pub desk_number_of : Call
desk_number_of = record { lifetimes = 1; params = desk-number-of-kinds.ps; returns = desk-number-of-kinds.r; asks = desk-number-of-reads.Asked; promise = desk-number-of-reads.Post; asks_nothing = λ κs a. tt }

abbrev pub desk_polynomial_of : Call
desk_polynomial_of = record { lifetimes = 1; params = desk-polynomial-of-kinds.ps; returns = desk-polynomial-of-kinds.r; asks = desk-polynomial-of-reads.Asked; promise = desk-polynomial-of-reads.Post; asks_nothing = λ κs a. tt }

-- ---- what number a word means

abbrev pub number : Call
number = record { lifetimes = 1; params = number-kinds.ps; returns = number-kinds.r; asks = number-reads.Asked; promise = number-reads.Post; asks_nothing = λ κs a. tt }

abbrev pub polynomial : Call
polynomial = record { lifetimes = 1; params = polynomial-kinds.ps; returns = polynomial-kinds.r; asks = polynomial-reads.Asked; promise = polynomial-reads.Post; asks_nothing = λ κs a. tt }
