-- What was read, as the numbers of include/trace.h: a record's fields, and struct aglimtaq_reading as the list of its numbers, in order.
-- A field that an answer does not use is 0. Assumes nothing.
use Rattle.frames.specs.declared.refusal.Refusal.{Refusal}
use Rattle.records.specs.declared.record.Record.{Record}
use Rattle.std.specs.Prelude.{List, [], ◌∷◌, ℕ, Result, Ok, Err}
use Rattle.frames.specs.Refusals.{number_of}
use Rattle.frames.specs.declared.read.Part.{Part}
use Rattle.records.specs.declared.record.FileMeta.{FileMeta}
use Rattle.records.specs.declared.record.FileMeta.TheVariants as file
use Rattle.records.specs.declared.record.Meta.{Meta}
use Rattle.records.specs.declared.record.Meta.TheVariants as meta
use Rattle.records.specs.declared.record.Record.TheVariants as kind
use Rattle.records.specs.declared.position.Answer.{Answer}
use Rattle.records.specs.declared.position.Answer.TheVariants as answer
use Rattle.records.specs.Contents.RecordType.{magic, arch, register_name_map, unknown_file_meta, map, unmap, instruction, pc}
use Rattle.records.specs.Contents.RecordType.{instruction_count, thread_id, process_id, call_begin, call_modeled_ops_end, call_end}
use Rattle.records.specs.Contents.RecordType.{operand_uncertain, address_dependency_edge, register_dependency_edge, memory_allocated}
use Rattle.records.specs.Contents.RecordType.{memory_freed, memory_reallocated, unknown_meta, interrupt, reg_read, reg_write}
use Rattle.records.specs.Contents.RecordType.{reg_write_native, mem_read, mem_write}
use Rattle.trace_c.specs.declared.fields.Fields.{Fields}
use Rattle.trace_c.specs.Types.{number}

-- ---- a record: enum aglimtaq_type, its numbers, and the part where its bytes lie

abbrev pub none : Part
none = record { start = 0; end = 0 }

abbrev pub fields : ℕ → ℕ → ℕ → ℕ → Part → Fields
fields t a b c p = record { type_number = t; a = a; b = b; c = c; part = p }

unfoldable pub file_meta_fields : FileMeta → Fields
file_meta_fields (file.RegisterNameMap a p) = fields (number register_name_map) a 0 0 p
file_meta_fields (file.Unknown a p) = fields (number unknown_file_meta) a 0 0 p

unfoldable pub meta_fields : Meta → Fields
meta_fields (meta.InstructionCount a) = fields (number instruction_count) a 0 0 none
meta_fields (meta.ThreadId a) = fields (number thread_id) a 0 0 none
meta_fields (meta.ProcessId a) = fields (number process_id) a 0 0 none
meta_fields (meta.CallBegin p a) = fields (number call_begin) a 0 0 p
meta_fields meta.CallModeledOpsEnd = fields (number call_modeled_ops_end) 0 0 0 none
meta_fields (meta.CallEnd a) = fields (number call_end) a 0 0 none
meta_fields meta.OperandUncertain = fields (number operand_uncertain) 0 0 0 none
meta_fields (meta.AddressDependencyEdge a) = fields (number address_dependency_edge) a 0 0 none
meta_fields (meta.RegisterDependencyEdge a) = fields (number register_dependency_edge) a.0 0 0 none
meta_fields (meta.MemoryAllocated a b) = fields (number memory_allocated) a b 0 none
meta_fields (meta.MemoryFreed a b) = fields (number memory_freed) a b 0 none
meta_fields (meta.MemoryReallocated a b c) = fields (number memory_reallocated) a b c none
meta_fields (meta.Unknown a p) = fields (number unknown_meta) a 0 0 p

unfoldable pub fields_of : Record → Fields
fields_of kind.Magic = fields (number magic) 0 0 0 none
fields_of (kind.Arch p) = fields (number arch) 0 0 0 p
fields_of (kind.FileMeta m) = file_meta_fields m
fields_of (kind.Map a p) = fields (number map) a 0 0 p
fields_of (kind.Unmap a b) = fields (number unmap) a b 0 none
fields_of (kind.Instruction a p) = fields (number instruction) a 0 0 p
fields_of (kind.Pc a) = fields (number pc) a 0 0 none
fields_of (kind.Meta m) = meta_fields m
fields_of (kind.Interrupt a b) = fields (number interrupt) a b 0 none
fields_of (kind.RegRead a p) = fields (number reg_read) a.0 0 0 p
fields_of (kind.RegWrite a p) = fields (number reg_write) a.0 0 0 p
fields_of (kind.RegWriteNative a p) = fields (number reg_write_native) a.0 0 0 p
fields_of (kind.MemRead a p) = fields (number mem_read) a 0 0 p
fields_of (kind.MemWrite a p) = fields (number mem_write) a 0 0 p

-- ---- struct aglimtaq_reading

abbrev nothing : List ℕ
nothing = 0 ∷ 0 ∷ 0 ∷ 0 ∷ 0 ∷ 0 ∷ []

unfoldable pub numbers_of : Fields → List ℕ
numbers_of f = f.type_number ∷ f.a ∷ f.b ∷ f.c ∷ f.part.start ∷ f.part.end ∷ []

-- SHOWN, a number that is not used, start and end, and the record
abbrev pub shown : Part → Fields → List ℕ
shown q f = 0 ∷ 0 ∷ q.start ∷ q.end ∷ numbers_of f

-- enum aglimtaq_answer, number, start and end, and the record
unfoldable pub flat_answer : Answer → List ℕ
flat_answer (answer.Shown r q) = shown q (fields_of r)
flat_answer (answer.RefusedAt r q) = 1 ∷ number_of r ∷ q.start ∷ q.end ∷ nothing
flat_answer (answer.Refused r) = 2 ∷ number_of r ∷ 0 ∷ 0 ∷ nothing
flat_answer answer.Finished = 3 ∷ 0 ∷ 0 ∷ 0 ∷ nothing
flat_answer (answer.Unfinished n) = 4 ∷ n ∷ 0 ∷ 0 ∷ nothing

unfoldable pub flat_parsed : Result Record Refusal → List ℕ
flat_parsed (Ok r) = shown none (fields_of r)
flat_parsed (Err r) = 2 ∷ number_of r ∷ 0 ∷ 0 ∷ nothing
