-- Which bound trees name only tables, indexes and sequences that the schema has: in what they read, create and count.
use Rattle.std.specs.Prelude.{ℕ, nat_lt, Bool, true, false, ◌&&◌, List, length, slice_get, Option, Some, None}
use Rattle.std.specs.List.{list_all}
use Rattle.abl_values.specs.declared.schema.TableDef.{TableDef}
use Rattle.abl_values.specs.Schema.{SchemaData, table_at}
use Rattle.bound_tree.specs.declared.procedure.BufferDef.{BufferDef}
use Rattle.bound_tree.specs.Tree.{Assignment, Assign, Body, Choose, Create, CurrentOf, Fetch, Find, FindCurrent, Inner, NextOf, Nothing, Procedure, Reading, Right, Source, Stmt, Then}

-- the schema has the table of this number
abbrev pub has_table : SchemaData → ℕ → Bool
has_table schema table = nat_lt table (length schema.tables)

-- the table has the index by which records are read; without one they are read by their identities
abbrev pub has_index : TableDef → Option ℕ → Bool
has_index t None = true
has_index t (Some i) = nat_lt i (length t.indexes)

-- the procedure has the buffer, and the schema its table
abbrev pub has_buffer : SchemaData → Option BufferDef → Bool
has_buffer schema None = false
has_buffer schema (Some d) = has_table schema d.table

-- and this table has the index
abbrev pub can_read : SchemaData → Option ℕ → Option BufferDef → Bool
can_read schema index None = false
can_read schema index (Some d) = has_table schema d.table && has_index (table_at schema d.table) index

-- ---- what a part of a procedure with these buffers names

abbrev pub has_reading : SchemaData → List BufferDef → Reading → Bool
has_reading schema buffers r = can_read schema r.index (slice_get buffers r.buffer)

-- the record phrase of a FOR
abbrev pub has_fetch : SchemaData → List BufferDef → Option Fetch → Bool
has_fetch schema buffers None = true
has_fetch schema buffers (Some f) = has_reading schema buffers f.reading

abbrev pub has_right : SchemaData → Right → Bool
has_right schema (NextOf q) = nat_lt q (length schema.sequences)
has_right schema (CurrentOf q) = nat_lt q (length schema.sequences)
has_right schema right = true

abbrev pub has_assignment : SchemaData → Assignment → Bool
has_assignment schema a = has_right schema a.right

abbrev mutual
  pub has_statement : SchemaData → List BufferDef → Stmt → Bool
  has_statement schema buffers (Inner h body) = has_fetch schema buffers h.fetch && has_body schema buffers body
  has_statement schema buffers (Choose test then_it else_it) = has_body schema buffers then_it && has_body schema buffers else_it
  has_statement schema buffers (Assign pairs quiet) = list_all (has_assignment schema) pairs
  has_statement schema buffers (Find word reading wait quiet) = has_reading schema buffers reading
  has_statement schema buffers (FindCurrent reading wait quiet) = has_reading schema buffers reading
  has_statement schema buffers (Create b quiet) = has_buffer schema (slice_get buffers b)
  has_statement schema buffers t = true

  pub has_body : SchemaData → List BufferDef → Body → Bool
  has_body schema buffers Nothing = true
  has_body schema buffers (Then t ts) = has_statement schema buffers t && has_body schema buffers ts

abbrev pub has_procedure : SchemaData → Procedure → Bool
has_procedure schema q = has_fetch schema q.buffers q.header.fetch && has_body schema q.buffers q.body

-- THE SCHEMA HAS each table, index and sequence that the source names so
abbrev pub has_source : SchemaData → Source → Bool
has_source schema source = list_all (has_procedure schema) source.procedures
