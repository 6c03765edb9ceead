-- What the house functions take and hand back, in small cases, as tables that are proved by computing them. What is due comes from
-- include/trace.h and from document 02's words of M-103. Assumes nothing.
use Rattle.std.specs.Prelude.{Option, Some, None}
use Rattle.frames.specs.declared.refusal.Refusal.{Refusal}
use mathlib.Core.Path.{◌≡◌, refl}
use mathlib.Core.List.{List, [], ◌∷◌, ◌++◌}
use Prim.Native.Nat.{ℕ, suc}
use lib.ListN.{length, replicate}
use Rattle.records.specs.declared.position.Answer.{Answer}
use Rattle.records.specs.declared.record.Meta.{Meta}
use Rattle.records.specs.declared.record.Record.{Record}
use Rattle.records.proofs.Opened.{opened}
use Rattle.house.specs.declared.gauge.Gauge.{Gauge}
use Rattle.house.specs.declared.read.HouseAnswer.{HouseAnswer}
use Rattle.house.specs.Gauges.{gauge_bytes, gauge_as, gauge_in, gauge_of}
use Rattle.house.specs.House.{is_house, gauge_at, house_answer, house_reading, house_next, house_previous, ruled_by, judge_house, judge_house_write, house_written, house_bytes}
use Rattle.trace_c.specs.Types.{fuel, distance_left, reserve_lamp}
use Rattle.trace_c.specs.Fields.{file_meta_fields, meta_fields, fields_of, numbers_of, flat_answer}
use Rattle.trace_c.specs.Forms.{form_number, form_of, form_in, placed}
use Rattle.trace_c.specs.Writing.{verdict_number}
use Rattle.trace_c.specs.Gauges.{gauge_fields, flat_house, house_reading_by, house_place_by, house_number, house_left, house_out}
use Rattle.trace_c.specs.Gauges.{gauge_fits, gauge_built, gauge_given, gauge_from, no_gauge, gauge_number, gauge_left, gauge_out}
use Rattle.trace_c.proofs.Examples.{Row, row, Hold, x, at, thread, idle, lent, no_form, holds}

-- ---- enum aglimtaq_type

-- FUEL = 28, DISTANCE_LEFT = 29, RESERVE_LAMP = 30
pub gauges_numbered : fuel ∷ distance_left ∷ reserve_lamp ∷ [] ≡ 28 ∷ 29 ∷ 30 ∷ []
gauges_numbered = refl

-- ---- struct aglimtaq_reading

-- SHOWN, no number, start and end; the type, the value and the tick; every other answer as the plain reader's
abbrev pub told : List (Row (List ℕ))
told =
    row (flat_house (HouseAnswer.Fields (Gauge.Fuel 5 6) (at 2 3))) (0 ∷ 0 ∷ 2 ∷ 3 ∷ 28 ∷ 5 ∷ 6 ∷ 0 ∷ 0 ∷ 0 ∷ [])
    ∷ row (flat_house (HouseAnswer.Fields (Gauge.DistanceLeft 5 6) (at 2 3))) (0 ∷ 0 ∷ 2 ∷ 3 ∷ 29 ∷ 5 ∷ 6 ∷ 0 ∷ 0 ∷ 0 ∷ [])
    ∷ row (flat_house (HouseAnswer.Fields (Gauge.ReserveLamp 1 6) (at 2 3))) (0 ∷ 0 ∷ 2 ∷ 3 ∷ 30 ∷ 1 ∷ 6 ∷ 0 ∷ 0 ∷ 0 ∷ [])
    ∷ row (flat_house (HouseAnswer.Other (Answer.Shown (Record.Meta (Meta.Unknown 5 (at 8 9))) (at 2 3)))) (0 ∷ 0 ∷ 2 ∷ 3 ∷ 21 ∷ 5 ∷ 0 ∷ 0 ∷ 8 ∷ 9 ∷ [])
    ∷ row (flat_house (HouseAnswer.Other (Answer.RefusedAt Refusal.NotAGauge (at 2 3)))) (1 ∷ 15 ∷ 2 ∷ 3 ∷ 0 ∷ 0 ∷ 0 ∷ 0 ∷ 0 ∷ 0 ∷ [])  -- NOT_A_GAUGE
    ∷ row (flat_house (HouseAnswer.Other (Answer.Refused Refusal.BeyondEnd))) (2 ∷ 8 ∷ 0 ∷ 0 ∷ 0 ∷ 0 ∷ 0 ∷ 0 ∷ 0 ∷ 0 ∷ [])
    ∷ row (flat_house (HouseAnswer.Other Answer.Finished)) (3 ∷ 0 ∷ 0 ∷ 0 ∷ 0 ∷ 0 ∷ 0 ∷ 0 ∷ 0 ∷ 0 ∷ [])
    ∷ row (flat_house (HouseAnswer.Other (Answer.Unfinished 11))) (4 ∷ 11 ∷ 0 ∷ 0 ∷ 0 ∷ 0 ∷ 0 ∷ 0 ∷ 0 ∷ 0 ∷ [])
    ∷ []

pub told_hold : Hold told
unfolding meta_fields fields_of numbers_of flat_answer gauge_fields flat_house
told_hold = refl

-- ---- records of the family: their bytes after the tag, and the whole records

abbrev tick : List ℕ
tick = 0x05 ∷ replicate 7 0x00

-- 300 tenths of a litre, 65,535 kilometres, and a lamp, at tick 5
abbrev of_fuel : List ℕ
of_fuel = 0x00 ∷ 0x2c ∷ 0x01 ∷ tick

abbrev of_distance : List ℕ
of_distance = 0x01 ∷ 0xff ∷ 0xff ∷ tick

abbrev of_lamp : ℕ → List ℕ
of_lamp n = 0x02 ∷ n ∷ tick

-- a short Meta of tag 200 with n content bytes
abbrev meta : ℕ → List ℕ → List ℕ
meta n bs = 0x31 ∷ n ∷ 0xc8 ∷ (bs ++ (suc n ∷ []))

-- ---- `aglimtaq_house_next` and `aglimtaq_house_previous`: the position that a reading leaves, and then its struct

abbrev next_in : List ℕ → List ℕ → List ℕ
next_in s p = house_place_by (house_next s) p (form_in p) ++ house_reading_by (house_next s) p (form_in p)

abbrev back_in : List ℕ → List ℕ → List ℕ
back_in s p = house_place_by (house_previous s) p (form_in p) ++ house_reading_by (house_previous s) p (form_in p)

abbrev shows : ℕ → ℕ → ℕ → ℕ → List ℕ
shows end type value n = 0 ∷ 0 ∷ 0 ∷ end ∷ type ∷ value ∷ n ∷ 0 ∷ 0 ∷ 0 ∷ []

-- REFUSED_AT with 15
abbrev refused : ℕ → List ℕ
refused end = 1 ∷ 15 ∷ 0 ∷ end ∷ 0 ∷ 0 ∷ 0 ∷ 0 ∷ 0 ∷ 0 ∷ []

abbrev pub read : List (Row (List ℕ))
read =
    row (next_in (meta 13 of_fuel) (idle 0 0)) (idle 15 0 ++ shows 15 28 300 5)
    ∷ row (next_in (meta 13 of_distance) (idle 0 1)) (idle 15 1 ++ shows 15 29 0xffff 5)
    ∷ row (next_in (meta 12 (of_lamp 1)) (idle 0 2)) (idle 14 2 ++ shows 14 30 1 5)  -- its numbers have the same width in every form
    ∷ row (next_in (meta 12 (of_lamp 2)) (idle 0 0)) (idle 14 0 ++ refused 14)  -- a lamp byte above 1: the record is passed
    ∷ row (next_in (meta 2 []) (idle 0 0)) (idle 4 0 ++ refused 4)  -- nothing after the tag
    ∷ row (next_in (meta 12 (0x03 ∷ 0x00 ∷ tick)) (idle 0 0)) (idle 14 0 ++ refused 14)  -- a sub-kind that is none of the three
    ∷ row (next_in (meta 14 (of_fuel ++ (0x00 ∷ []))) (idle 0 0)) (idle 16 0 ++ refused 16)  -- too long
    ∷ row (next_in thread (idle 0 0)) (idle 8 0 ++ shows 8 10 5 0)  -- another record, as the plain reader shows it
    ∷ row (next_in (meta 13 of_fuel) (idle 0 4)) (idle 0 4 ++ no_form)  -- NOT_A_FORM: the position is kept
    ∷ row (back_in (meta 13 of_fuel) (idle 15 3)) (idle 0 3 ++ shows 15 28 300 5)
    ∷ row (back_in (meta 12 (of_lamp 2)) (idle 14 0)) (idle 0 0 ++ refused 14)
    ∷ row (back_in (meta 13 of_fuel) (idle 99 4)) (idle 99 4 ++ no_form)  -- before BEYOND_END
    ∷ row (next_in (meta 13 of_fuel) (holds 0)) (holds 0 ++ (3 ∷ 0 ∷ 0 ∷ 0 ∷ 0 ∷ 0 ∷ 0 ∷ 0 ∷ 0 ∷ 0 ∷ []))  -- FINISHED at an open record's start
    ∷ []

pub read_hold : Hold read
unfolding opened file_meta_fields meta_fields fields_of numbers_of flat_answer form_of form_number placed gauge_as gauge_in gauge_of is_house gauge_at house_answer house_reading gauge_fields flat_house house_place_by house_reading_by
read_hold = refl

-- ---- a house reading to be written, from its numbers

abbrev given : Gauge → Option Gauge
given g = Some g

-- "where the type is none of the three or the value has more bits than its field"
abbrev pub gauges : List (Row (Option Gauge))
gauges =
    row (gauge_given 27 0 0) None  -- MEM_WRITE
    ∷ row (gauge_given 28 0xffff x) (given (Gauge.Fuel 0xffff x))
    ∷ row (gauge_given 28 0x10000 x) None
    ∷ row (gauge_given 29 0xffff x) (given (Gauge.DistanceLeft 0xffff x))
    ∷ row (gauge_given 29 0x10000 x) None
    ∷ row (gauge_given 30 0xff x) (given (Gauge.ReserveLamp 0xff x))
    ∷ row (gauge_given 30 0x100 x) None
    ∷ row (gauge_given 31 0 0) None  -- there is no such type
    ∷ row (gauge_given 0 0 0) None
    ∷ row (gauge_built 28 0x10007 5) (given (Gauge.Fuel 7 5))  -- the bits that its field has, and no others
    ∷ row (gauge_built 29 0x10007 5) (given (Gauge.DistanceLeft 7 5))
    ∷ row (gauge_built 30 0x107 5) (given (Gauge.ReserveLamp 7 5))
    ∷ row (gauge_from (28 ∷ 7 ∷ 8 ∷ 9 ∷ [])) (given (Gauge.Fuel 7 8))  -- type, value and tick; the last number does not count
    ∷ row (gauge_from (30 ∷ [])) (given (Gauge.ReserveLamp 0 0))  -- a number that is not there is 0; C's arrays have them all
    ∷ row (gauge_from []) None
    ∷ []

pub gauges_hold : Hold gauges
unfolding gauge_fits gauge_built gauge_given gauge_from
gauges_hold = refl

-- ---- the house writers: what each returns, the position that it leaves, and then the bytes

abbrev write : List ℕ → List ℕ → List ℕ → List ℕ
write d p bs = house_number (length d) p bs (form_in p) ∷ (house_left (length d) p bs (form_in p) ++ house_out d p bs (form_in p))

abbrev pub writes : List (Row (List ℕ))
writes =
    row (write (lent 17) (idle 1 3) of_fuel) (0 ∷ (idle 16 3 ++ (0xee ∷ (meta 13 of_fuel ++ (0xee ∷ [])))))  -- the position after the record, and all else as it came
    ∷ row (write (lent 15) (idle 1 3) of_fuel) (9 ∷ (idle 1 3 ++ lent 15))  -- NO_ROOM: nothing is altered
    ∷ row (write (lent 1) (idle 0 0) (of_lamp 2)) (15 ∷ (idle 0 0 ++ lent 1))  -- NOT_A_GAUGE comes before it
    ∷ row (write (lent 15) (idle 0 0) []) (15 ∷ (idle 0 0 ++ lent 15))
    ∷ row (write (lent 1) (idle 2 0) (of_lamp 2)) (8 ∷ (idle 2 0 ++ lent 1))  -- BEYOND_END comes before both
    ∷ row (write (lent 0) (holds 0) (of_lamp 2)) (18 ∷ (holds 0 ++ lent 0))  -- RECORD_OPEN comes before these
    ∷ row (write (lent 0) (9 ∷ 4 ∷ 1 ∷ 1 ∷ 2 ∷ 3 ∷ []) []) (257 ∷ 9 ∷ 4 ∷ 1 ∷ 1 ∷ 2 ∷ 3 ∷ [])  -- NOT_A_FORM comes before all
    ∷ []

pub writes_hold : Hold writes
unfolding opened verdict_number form_of form_number placed gauge_as gauge_in gauge_of ruled_by judge_house judge_house_write house_written house_bytes house_number house_left house_out
writes_hold = refl

abbrev write_gauge : List ℕ → List ℕ → List ℕ → List ℕ
write_gauge d p r =
    let g = gauge_from r in
    gauge_number (length d) p g (form_in p) ∷ (gauge_left (length d) p g (form_in p) ++ gauge_out d p g (form_in p))

abbrev pub gauge_writes : List (Row (List ℕ))
gauge_writes =
    row (write_gauge (lent 16) (idle 1 0) (28 ∷ 300 ∷ 5 ∷ 0 ∷ [])) (0 ∷ (idle 16 0 ++ (0xee ∷ meta 13 of_fuel)))
    ∷ row (write_gauge (lent 15) (idle 0 1) (29 ∷ 65535 ∷ 5 ∷ 0 ∷ [])) (0 ∷ (idle 15 1 ++ meta 13 of_distance))
    ∷ row (write_gauge (lent 14) (idle 0 2) (30 ∷ 1 ∷ 5 ∷ 9 ∷ [])) (0 ∷ (idle 14 2 ++ meta 12 (of_lamp 1)))  -- the last number does not count
    ∷ row (write_gauge (lent 15) (idle 1 0) (28 ∷ 300 ∷ 5 ∷ 0 ∷ [])) (9 ∷ (idle 1 0 ++ lent 15))
    ∷ row (write_gauge (lent 15) (idle 0 0) (28 ∷ 65536 ∷ 5 ∷ 0 ∷ [])) (256 ∷ (idle 0 0 ++ lent 15))  -- the value does not fit
    ∷ row (write_gauge (lent 15) (idle 0 0) (29 ∷ 65536 ∷ 5 ∷ 0 ∷ [])) (256 ∷ (idle 0 0 ++ lent 15))
    ∷ row (write_gauge (lent 15) (idle 0 0) (30 ∷ 255 ∷ 5 ∷ 0 ∷ [])) (15 ∷ (idle 0 0 ++ lent 15))  -- NOT_A_GAUGE
    ∷ row (write_gauge (lent 15) (idle 0 0) (30 ∷ 256 ∷ 5 ∷ 0 ∷ [])) (256 ∷ (idle 0 0 ++ lent 15))
    ∷ row (write_gauge (lent 15) (idle 0 0) (27 ∷ 1 ∷ 5 ∷ 0 ∷ [])) (256 ∷ (idle 0 0 ++ lent 15))  -- none of the three types
    ∷ row (write_gauge (lent 15) (idle 0 0) (31 ∷ 1 ∷ 5 ∷ 0 ∷ [])) (256 ∷ (idle 0 0 ++ lent 15))
    ∷ row (write_gauge (lent 0) (holds 0) (30 ∷ 2 ∷ 5 ∷ 0 ∷ [])) (18 ∷ (holds 0 ++ lent 0))  -- before 8, 15 and 9
    ∷ row (write_gauge (lent 0) (idle 1 0) (30 ∷ 2 ∷ 5 ∷ 0 ∷ [])) (8 ∷ (idle 1 0 ++ lent 0))
    ∷ row (write_gauge (lent 0) (holds 0) (31 ∷ 1 ∷ 5 ∷ 0 ∷ [])) (256 ∷ (holds 0 ++ lent 0))  -- before 18
    ∷ row (write_gauge (lent 0) (idle 9 4) (31 ∷ 1 ∷ 5 ∷ 0 ∷ [])) (257 ∷ (idle 9 4 ++ lent 0))  -- before 256
    ∷ row (write_gauge (lent 15) (idle 0 4) (28 ∷ 300 ∷ 5 ∷ 0 ∷ [])) (257 ∷ (idle 0 4 ++ lent 15))
    ∷ []

pub gauge_writes_hold : Hold gauge_writes
unfolding opened verdict_number form_of form_number placed gauge_bytes gauge_as gauge_in gauge_of ruled_by judge_house judge_house_write house_written house_bytes house_number house_left house_out gauge_fits gauge_built gauge_given gauge_from no_gauge gauge_number gauge_left gauge_out
gauge_writes_hold = refl
