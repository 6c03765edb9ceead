-- What the house functions of include/trace.h take, return and leave (document 02, M-103): each struct as the list of its numbers, in order.
-- As the house reader and writer; and 257, before all else, where the form is none of the four: then no position is moved and nothing is
-- written. Assumes nothing.
use Rattle.records.specs.declared.address.AddressForm.{AddressForm}
use Rattle.std.specs.Prelude.{Bool, true, cond, ◌||◌, List, ℕ, ◌%◌, ◌^◌, ltb, eqb, get_or, Option, Some, None}
use Rattle.records.specs.declared.position.Position.{Position}
use Rattle.house.specs.declared.gauge.Gauge.{Gauge}
use Rattle.house.specs.declared.gauge.Gauge.TheVariants as gauge
use Rattle.house.specs.declared.read.HouseAnswer.{HouseAnswer}
use Rattle.house.specs.declared.read.HouseAnswer.TheVariants as house
use Rattle.house.specs.declared.read.HouseReading.{HouseReading}
use Rattle.house.specs.Gauges.{gauge_bytes}
use Rattle.house.specs.House.{house_written, house_bytes}
use Rattle.trace_c.specs.declared.fields.Fields.{Fields}
use Rattle.trace_c.specs.Types.{fuel, distance_left, reserve_lamp}
use Rattle.trace_c.specs.Forms.{placed, moved_to}
use Rattle.trace_c.specs.Fields.{none, fields, shown, flat_answer}
use Rattle.trace_c.specs.Reading.{no_form}
use Rattle.trace_c.specs.Writing.{verdict_number}

-- ---- struct aglimtaq_reading, and struct aglimtaq_position after the call

-- a house reading: its type, its value and its tick
unfoldable pub gauge_fields : Gauge → Fields
gauge_fields (gauge.Fuel n tick) = fields fuel n tick 0 none
gauge_fields (gauge.DistanceLeft n tick) = fields distance_left n tick 0 none
gauge_fields (gauge.ReserveLamp n tick) = fields reserve_lamp n tick 0 none

-- SHOWN with start and end, and the fields; every other answer as the plain reader's
unfoldable pub flat_house : HouseAnswer → List ℕ
flat_house (house.Fields g q) = shown q (gauge_fields g)
flat_house (house.Other a) = flat_answer a

unfoldable pub house_reading_by : (Position → HouseReading) → List ℕ → Option AddressForm → List ℕ
house_reading_by read p (Some f) = flat_house (read (placed p f)).answer
house_reading_by read p None = no_form

unfoldable pub house_place_by : (Position → HouseReading) → List ℕ → Option AddressForm → List ℕ
house_place_by read p (Some f) = moved_to p (read (placed p f)).position.at
house_place_by read p None = p

-- ---- `aglimtaq_house_write` of the bytes bs: what it returns, struct aglimtaq_position after it, and the lent bytes

unfoldable pub house_number : ℕ → List ℕ → List ℕ → Option AddressForm → ℕ
house_number lent p bs (Some f) = verdict_number (house_written lent (placed p f) bs).verdict
house_number lent p bs None = 257

unfoldable pub house_left : ℕ → List ℕ → List ℕ → Option AddressForm → List ℕ
house_left lent p bs (Some f) = moved_to p (house_written lent (placed p f) bs).position.at
house_left lent p bs None = p

unfoldable pub house_out : List ℕ → List ℕ → List ℕ → Option AddressForm → List ℕ
house_out d p bs (Some f) = house_bytes d (placed p f) bs
house_out d p bs None = d

-- ---- a house reading to be written, from its type, its value and its tick

-- whether the value fits the type: fuel and distance left have 16 bits, the lamp has 8
unfoldable pub gauge_fits : ℕ → ℕ → Bool
gauge_fits t n =
    cond (eqb t fuel || eqb t distance_left) (ltb n (2 ^ 16))
    (cond (eqb t reserve_lamp) (ltb n (2 ^ 8))
    true)

-- with the value cut to the bits that its type has
unfoldable pub gauge_built : ℕ → ℕ → ℕ → Option Gauge
gauge_built t n tick =
    cond (eqb t fuel) (Some (Gauge.Fuel (n % 2 ^ 16) tick))
    (cond (eqb t distance_left) (Some (Gauge.DistanceLeft (n % 2 ^ 16) tick))
    (cond (eqb t reserve_lamp) (Some (Gauge.ReserveLamp (n % 2 ^ 8) tick))
    None))

unfoldable pub gauge_given : ℕ → ℕ → ℕ → Option Gauge
gauge_given t n tick = cond (gauge_fits t n) (gauge_built t n tick) None

-- `struct aglimtaq_record` as the list of its numbers; the last does not count
unfoldable pub gauge_from : List ℕ → Option Gauge
gauge_from r = gauge_given (get_or r 0 0) (get_or r 1 0) (get_or r 2 0)

-- ---- `aglimtaq_house_write_gauge`: as `aglimtaq_house_write` of the bytes of the house reading; and 256, with nothing altered, where none
-- was given

unfoldable pub no_gauge : Option AddressForm → ℕ
no_gauge (Some f) = 256
no_gauge None = 257

unfoldable pub gauge_number : ℕ → List ℕ → Option Gauge → Option AddressForm → ℕ
gauge_number lent p (Some g) form = house_number lent p (gauge_bytes g) form
gauge_number lent p None form = no_gauge form

unfoldable pub gauge_left : ℕ → List ℕ → Option Gauge → Option AddressForm → List ℕ
gauge_left lent p (Some g) form = house_left lent p (gauge_bytes g) form
gauge_left lent p None form = p

unfoldable pub gauge_out : List ℕ → List ℕ → Option Gauge → Option AddressForm → List ℕ
gauge_out d p (Some g) form = house_out d p (gauge_bytes g) form
gauge_out d p None form = d
