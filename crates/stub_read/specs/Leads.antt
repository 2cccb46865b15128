-- The first words of lines.
use Rattle.std.specs.Prelude.{ℕ, List, [], ◌∷◌, None, codes}
use Rattle.stub_read.specs.declared.leads.Lead.{Lead}
use Rattle.stub_read.specs.declared.leads.Lead.TheVariants as lead
use Rattle.stub_read.specs.declared.leads.PutLead.{PutLead}
use Rattle.stub_read.specs.declared.leads.PutLead.TheVariants as put
use Rattle.stub_read.specs.Reading.{Reader, led}

-- what begins no line
abbrev pub nothing : {A : Type 0} → Reader A
nothing t = None

-- what the first word of a table that begins octets stands for
abbrev pub led_in : {A : Type 0} → List (List ℕ × A) → Reader A
led_in [] t = None
led_in (e ∷ table) t = led e.0 e.1 (led_in table) t

-- the first word of an operation that is none of the first six
unfoldable pub rest_lead_at : Reader Lead
rest_lead_at =
    led (codes "row_wide ") lead.RowWide (led (codes "each ") lead.Each (led (codes "switch ") lead.Switch
    (led (codes "some ") lead.There (led (codes "call ") lead.Call (led (codes "patch ") lead.Patch nothing)))))

-- the first word of an operation
abbrev pub lead_at : Reader Lead
lead_at =
    led (codes "ensure ") lead.Ensure (led (codes "ensure_row ") lead.EnsureRow (led (codes "align ") lead.Align
    (led (codes "chunk ") lead.Chunk (led (codes "row_copy ") lead.RowCopy (led (codes "row_swap ") lead.RowSwap rest_lead_at)))))

-- what a put stores, after its offset
abbrev pub put_lead_at : Reader PutLead
put_lead_at =
    led (codes "num ") put.Num (led (codes "tag ") put.Tag (led (codes "flag ") put.Flag (led (codes "count ") put.Count
    (led (codes "short ") put.Short (led (codes "const ") put.Const (led (codes "head ") put.Head nothing))))))
