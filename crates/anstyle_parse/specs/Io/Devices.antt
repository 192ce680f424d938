-- What stands in the readers and writers that are made of std's.
use Rattle.std.specs.Prelude.{Bool, Option, is_some}
use Rattle.std.specs.declared.io.Error.{Error}
use Rattle.anstyle_parse.specs.declared.io.Fault.{Fault}
use Rattle.anstyle_parse.specs.declared.io.devices.FromRead.{FromRead}
use Rattle.anstyle_parse.specs.declared.io.devices.FromWrite.{FromWrite}

-- the reader within, the error of the first read that failed, and whether one has
abbrev pub reader_of : {R : Type 0} → FromRead R → R
reader_of source = source.inner

abbrev pub reader_error : {R : Type 0} → FromRead R → Option Error
reader_error source = source.error

abbrev pub reader_failed : {R : Type 0} → FromRead R → Bool
reader_failed source = is_some (reader_error source)

-- the writer within, what the last write or flush that failed was, whether any has, and the
-- error of the first that did
abbrev pub writer_of : {W : Type 0} → FromWrite W → W
writer_of sink = sink.inner

abbrev pub writer_fault : {W : Type 0} → FromWrite W → Option Fault
writer_fault sink = sink.fault

abbrev pub writer_error : {W : Type 0} → FromWrite W → Option Error
writer_error sink = sink.error

abbrev pub writer_failed : {W : Type 0} → FromWrite W → Bool
writer_failed sink = is_some (writer_fault sink)
