-- The lines of operations and of their puts.
use Rattle.std.specs.Prelude.{ℕ, zero, suc, ℤ, List, ◌++◌, drop, Option, Some, None, codes, if◌then◌else◌}
use Rattle.wire_def.specs.declared.head.Order.{Order}
use Rattle.cast_stub.specs.declared.put.HeadField.{HeadField}
use Rattle.cast_stub.specs.declared.put.HeadField.TheVariants.{Id, Remote, Local}
use Rattle.cast_stub.specs.declared.put.Put.{Put}
use Rattle.cast_stub.specs.declared.put.Put.TheVariants as put
use Rattle.cast_stub.specs.declared.send.SendOp.{SendOp}
use Rattle.cast_stub.specs.declared.send.SendOp.TheVariants as op
use Rattle.stub_read.specs.declared.leads.Lead.{Lead}
use Rattle.stub_read.specs.declared.leads.Lead.TheVariants as leads
use Rattle.stub_read.specs.declared.leads.PutLead.{PutLead}
use Rattle.stub_read.specs.declared.leads.PutLead.TheVariants as puts
use Rattle.stub_read.specs.Reading.{Reader, then_on, begins, word_at, led, both, mapped, before, many}
use Rattle.stub_read.specs.Words.{space, feed, number_at, integer_at, path_at, order_at, octets_at}
use Rattle.stub_read.specs.Leads.{nothing, lead_at, put_lead_at}

-- ---- puts

-- a width and an order
abbrev pub layout_at : Reader (ℕ × Order)
layout_at = both (number_at space) order_at

-- a path, a width and an order
abbrev pub scalar_at : Reader (List ℕ × (ℕ × Order))
scalar_at = both (path_at space) layout_at

-- a path, a factor, a summand, a width and an order
abbrev pub count_at : Reader (List ℕ × (ℕ × (ℕ × (ℕ × Order))))
count_at = both (path_at space) (both (number_at space) (both (number_at space) layout_at))

-- a path and three numbers
abbrev pub short_at : Reader (List ℕ × (ℕ × (ℕ × ℕ)))
short_at = both (path_at space) (both (number_at space) (both (number_at space) (number_at feed)))

-- which number of a head
abbrev pub field_at : Reader HeadField
field_at = led (codes "id ") Id (led (codes "remote ") Remote (led (codes "local ") Local nothing))

abbrev pub num_of : ℕ → List ℕ × (ℕ × Order) → Put
num_of off x = put.Num off x.0 x.1.0 x.1.1

abbrev pub tag_of : ℕ → List ℕ × (ℕ × Order) → Put
tag_of off x = put.Tag off x.0 x.1.0 x.1.1

abbrev pub flag_of : ℕ → List ℕ × (ℕ × Order) → Put
flag_of off x = put.Flag off x.0 x.1.0 x.1.1

abbrev pub count_of : ℕ → List ℕ × (ℕ × (ℕ × (ℕ × Order))) → Put
count_of off x = put.Count off x.0 x.1.0 x.1.1.0 x.1.1.1.0 x.1.1.1.1

abbrev pub short_of : ℕ → List ℕ × (ℕ × (ℕ × ℕ)) → Put
short_of off x = put.Short off x.0 x.1.0 x.1.1.0 x.1.1.1

abbrev pub head_of : ℕ → HeadField × (ℕ × Order) → Put
head_of off x = put.Head off x.0 x.1.0 x.1.1

-- a length at an offset
abbrev pub count_put_at : ℕ → Reader Put
count_put_at off = mapped (count_of off) count_at

-- a short Mach descriptor at an offset
abbrev pub short_put_at : ℕ → Reader Put
short_put_at off = mapped (short_of off) short_at

-- what is stored at an offset
abbrev pub stored_at : ℕ → PutLead → Reader Put
stored_at off puts.Num = mapped (num_of off) scalar_at
stored_at off puts.Tag = mapped (tag_of off) scalar_at
stored_at off puts.Flag = mapped (flag_of off) scalar_at
stored_at off puts.Count = count_put_at off
stored_at off puts.Short = short_put_at off
stored_at off puts.Const = mapped (put.Const off) (before octets_at feed)
stored_at off puts.Head = mapped (head_of off) (both field_at layout_at)

-- a put, after the word that begins its line
abbrev pub put_at : Reader Put
put_at t = then_on (number_at space t) (λ off us. then_on (put_lead_at us) (λ k vs. stored_at off k vs))

-- the line that ends a block
abbrev pub end_line : List ℕ
end_line = codes "end" ++ feed

-- as many puts as there are
abbrev pub bare_puts_at : Reader (List Put)
bare_puts_at = many (word_at (codes "at ")) (λ u. put_at)

-- the puts of a chunk, and the line that ends it
abbrev pub puts_at : Reader (List Put)
puts_at = before bare_puts_at end_line

-- ---- operations

abbrev pub ensure_row_of : List ℕ × (ℕ × ℕ) → SendOp
ensure_row_of x = op.EnsureRow x.0 x.1.0 x.1.1

abbrev pub chunk_of : ℕ × List Put → SendOp
chunk_of x = op.Chunk x.0 x.1

abbrev pub row_wide_of : List ℕ × Order → SendOp
row_wide_of x = op.RowWide x.0 x.1

abbrev pub each_of : List ℕ × List SendOp → SendOp
each_of x = op.Each x.0 x.1

abbrev pub there_of : List ℕ × List SendOp → SendOp
there_of x = op.Some x.0 x.1

abbrev pub switch_of : List ℕ × (List (ℤ × List SendOp) × Option (List SendOp)) → SendOp
switch_of x = op.Switch x.0 x.1.0 x.1.1

abbrev pub call_of : ℕ × List ℕ → SendOp
call_of x = op.Call x.0 x.1

abbrev pub patch_of : ℕ × (ℕ × Order) → SendOp
patch_of x = op.Patch x.0 x.1.0 x.1.1

-- the room of a row
abbrev pub ensure_row_at : Reader SendOp
ensure_row_at = mapped ensure_row_of (both (path_at space) (both (number_at space) (number_at feed)))

-- numbers of a row in four octets each
abbrev pub row_wide_at : Reader SendOp
row_wide_at = mapped row_wide_of (both (path_at space) order_at)

-- a call
abbrev pub call_at : Reader SendOp
call_at = mapped call_of (both (number_at space) (path_at feed))

-- a patch
abbrev pub patch_at : Reader SendOp
patch_at = mapped patch_of (both (number_at space) layout_at)

-- what is read where one more level is there
abbrev pub deeper : {A : Type 0} → ℕ → Reader A → Reader A
deeper zero r t = None
deeper (suc l) r t = r t

-- a chunk
abbrev pub chunk_at : ℕ → Reader SendOp
chunk_at levels = deeper levels (mapped chunk_of (both (number_at feed) puts_at))

-- a path and the body after it
abbrev pub over_at : Reader (List SendOp) → Reader (List ℕ × List SendOp)
over_at body = both (path_at feed) (before body end_line)

-- the bodies of numbers
abbrev pub cases_at : Reader (List SendOp) → Reader (List (ℤ × List SendOp))
cases_at body = many (word_at (codes "case ")) (λ u. both (integer_at feed) body)

-- the line before the body of every other number
abbrev pub default_line : List ℕ
default_line = codes "default" ++ feed

-- the body of every other number, if there is one, and the end
abbrev pub last_at : Reader (List SendOp) → Reader (Option (List SendOp))
last_at body t =
    if begins default_line t then before (mapped Some body) end_line (drop 8 t) else mapped (λ u. None) (word_at end_line) t

-- a switch
abbrev pub switch_at : ℕ → Reader (List SendOp) → Reader SendOp
switch_at levels body = deeper levels (mapped switch_of (both (path_at feed) (both (cases_at body) (last_at body))))

-- an operation, after its first word, with so many levels and the reader of its bodies
abbrev pub op_at : ℕ → Reader (List SendOp) → Lead → Reader SendOp
op_at levels body leads.Ensure = mapped op.Ensure (number_at feed)
op_at levels body leads.EnsureRow = ensure_row_at
op_at levels body leads.Align = mapped op.Align (number_at feed)
op_at levels body leads.Chunk = chunk_at levels
op_at levels body leads.RowCopy = mapped op.RowCopy (path_at feed)
op_at levels body leads.RowSwap = mapped op.RowSwap (path_at feed)
op_at levels body leads.RowWide = row_wide_at
op_at levels body leads.Each = mapped each_of (over_at body)
op_at levels body leads.Switch = switch_at levels body
op_at levels body leads.There = mapped there_of (over_at body)
op_at levels body leads.Call = call_at
op_at levels body leads.Patch = patch_at

-- operations within one level less than so many
abbrev pub ops_at : ℕ → Reader (List SendOp)
ops_at zero t = None
ops_at (suc l) t = many lead_at (op_at l (ops_at l)) t
