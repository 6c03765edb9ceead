-- The numbers of the record types for C, each named here once: enum aglimtaq_type of include/trace.h, in the source's order. Assumes
-- nothing.
use Rattle.std.specs.Prelude.{ℕ}
use Rattle.records.specs.Contents.RecordType.{magic, arch, register_name_map, unknown_file_meta, map, unmap, instruction, pc}
use Rattle.records.specs.Contents.RecordType.{instruction_count, thread_id, process_id, call_begin, call_modeled_ops_end, call_end}
use Rattle.records.specs.Contents.RecordType.{operand_uncertain, address_dependency_edge, register_dependency_edge, memory_allocated}
use Rattle.records.specs.Contents.RecordType.{memory_freed, memory_reallocated, unknown_meta, interrupt, reg_read, reg_write}
use Rattle.records.specs.Contents.RecordType.{reg_write_native, mem_read, mem_write}
use Rattle.records.specs.Contents.{RecordType}

abbrev pub number : RecordType → ℕ
number magic = 1
number arch = 2
number register_name_map = 3
number unknown_file_meta = 4
number map = 5
number unmap = 6
number instruction = 7
number pc = 8
number instruction_count = 9
number thread_id = 10
number process_id = 11
number call_begin = 12
number call_modeled_ops_end = 13
number call_end = 14
number operand_uncertain = 15
number address_dependency_edge = 16
number register_dependency_edge = 17
number memory_allocated = 18
number memory_freed = 19
number memory_reallocated = 20
number unknown_meta = 21
number interrupt = 22
number reg_read = 23
number reg_write = 24
number reg_write_native = 25
number mem_read = 26
number mem_write = 27

-- the house readings, which the house functions alone show and take
abbrev pub fuel : ℕ
fuel = 28

abbrev pub distance_left : ℕ
distance_left = 29

abbrev pub reserve_lamp : ℕ
reserve_lamp = 30
